-- Tests of two types and of the buffers, by the laws of the model: what each refusal says, and what is known behind the tests that passed.
use mathlib.Core.Path.{◌≡◌, refl, sym, ap, ◌∙◌}
use mathlib.Core.Bool.{false, not}
use mathlib.Core.List.{[]}
use Prim.Native.Nat.{ℕ, ◌+◌, ◌<◌, ◌≤◌}
use native.Mathlib.Omega.{arith}
use borrow.Author.Tests.{lt-ltb, le-ltb, eq-eqb, ne_eqb}
use lib.Dec.{eqb, ltb}
use lib.ListN.{length}
use Rattle.std.specs.Prelude.{Some, None, Result, Ok, Err, MatchResult}
use Rattle.std.specs.Result.{IsErrAnd}
use Rattle.std.proofs.lemmas.Result.{err_from_is_err_and}
use Rattle.foundation.specs.Search.{first_below}
use Rattle.model.specs.Tables.{OutputType}
use Rattle.model.specs.Answers.{Verdict, fine, refused, refuse_if, ◌then◌}
use Rattle.model.specs.Admission.{outside, table_length, entry_wrong}
use Rattle.model.proofs.Laws.Answers.{then_passed, then_refused, refuse_if_passed, refuse_if_refused}
use Rattle.model.proofs.Laws.Tests.{inside}
use Rattle.model.proofs.Laws.Merging.{Shaped, entry_fault, no_fault, table_short, marks_short, buffers_fit}
use Rattle.model.specs.Merging.{type_verdict}
use Rattle.admission_tables.proofs.Bounds.{table_bounds}
use Rattle.admission_tables.proofs.Found.{found_at, none_found}
use Rattle.merging_tests.specs.declared.MergingFault.{MergingFault}
use Rattle.merging_tests.specs.declared.MergingFault.TheVariants as fault
use Rattle.merging_tests.specs.Answers.{fault_number, fault_place, type_test_verdict, TellsType, test_verdict, result_verdict}

-- sizes that are not outside their ranges
pub in_range : (S O : ℕ) → outside 1 16 S ≡ false → outside 1 4 O ≡ false → (1 ≤ S) × (S ≤ 16) × (O ≤ 4)
in_range S O symbols states = let s = inside 1 16 S symbols in (s.least≤, s.≤most, (inside 1 4 O states).≤most)

-- table and marks of the right length have few entries
pub few_entries : (S : ℕ) (Y : OutputType) → Shaped S Y → 0 + length Y.table + length Y.marks ≤ 512
few_entries S Y s =
    let (some, most, few) = in_range S Y.states s.symbols s.states in
    omega (arith, table_bounds S Y.states most few, s.table_long, s.marks_long)

-- a search through nothing, then table and marks
module _ (S : ℕ) (Y : OutputType) (shaped : Shaped S Y) (number : ℕ) where
  behind_nothing : 0 + length Y.table + length Y.marks ≡ length Y.table + length Y.marks
  behind_nothing = omega arith

  pub bad_entry : (k : ℕ) → Some k ≡ first_below (entry_wrong Y.states [] Y.table Y.marks) (0 + length Y.table + length Y.marks)
      → refused number (4 + k) ≡ type_verdict number S Y
  bad_entry k e =
      let at = found_at (entry_wrong Y.states [] Y.table Y.marks) (length Y.table + length Y.marks) k (rw behind_nothing at e) in
      sym (entry_fault S Y number shaped k at.is_first at.inside)

  pub no_bad_entry : None ≡ first_below (entry_wrong Y.states [] Y.table Y.marks) (0 + length Y.table + length Y.marks)
      → fine ≡ type_verdict number S Y
  no_bad_entry e =
      sym (no_fault S Y number shaped _ refl (none_found (entry_wrong Y.states [] Y.table Y.marks) (length Y.table + length Y.marks) (rw behind_nothing at e)))

-- a type's test that failed, with the place told as one of either type
told : (number : ℕ) (tell : ℕ → MergingFault) → ((place : ℕ) → test_verdict (Err (tell place)) ≡ refused number place)
    → (test : Result Unit ℕ) (m : Result Unit MergingFault)
    → MatchResult test (λ x. m ≡ Ok x) (λ place. IsErrAnd m (λ f. f ≡ tell place))
    → test_verdict m ≡ type_test_verdict number test
told number tell says (Ok x) m e = ap test_verdict e
told number tell says (Err place) m e =
    let p = err_from_is_err_and m e in
    ap test_verdict (p.1 ∙ ap Err p.2) ∙ says place

pub told_as_first : (test : Result Unit ℕ) (m : Result Unit MergingFault) (S : ℕ) (Y : OutputType)
    → MatchResult test (λ x. m ≡ Ok x) (λ place. IsErrAnd m (λ f. f ≡ fault.First place))
    → TellsType test S Y
    → test_verdict m ≡ type_verdict 51 S Y
told_as_first test m S Y e t = told 51 (λ place. fault.First place) (λ place. refl) test m e ∙ t 51

pub told_as_second : (test : Result Unit ℕ) (m : Result Unit MergingFault) (S : ℕ) (Y : OutputType)
    → MatchResult test (λ x. m ≡ Ok x) (λ place. IsErrAnd m (λ f. f ≡ fault.Second place))
    → TellsType test S Y
    → test_verdict m ≡ type_verdict 52 S Y
told_as_second test m S Y e t = told 52 (λ place. fault.Second place) (λ place. refl) test m e ∙ t 52

-- a test that failed gives what is told, whatever comes after; one that passed refuses nothing
pub told_first : (test : Result Unit MergingFault) (f : MergingFault) (v w : Verdict) → test ≡ Err f → test_verdict test ≡ v
    → test_verdict (Err f) ≡ (v then w)
told_first test f v w is e =
    sym (then_refused v w (fault_number f) (fault_place f) (sym e ∙ ap test_verdict is))

pub passed : (test : Result Unit MergingFault) (v : Verdict) → test ≡ Ok tt → test_verdict test ≡ v → v ≡ fine
passed test v is e = sym e ∙ ap test_verdict is

-- the symbol counts
pub same_symbols : (S S' : ℕ) → S ≡ S' → refuse_if (not (eqb S S')) 50 S' ≡ fine
same_symbols S S' e = refuse_if_passed _ 50 S' (rw (eq-eqb S S' e))

pub other_symbols : (S S' : ℕ) → (S ≡ S' → ⊥) → refuse_if (not (eqb S S')) 50 S' ≡ refused 50 S'
other_symbols S S' differ = refuse_if_refused _ 50 S' (rw (ne_eqb S S' differ))

-- the states of the merged type, then its buffers
module _ (S states table_room marks_room : ℕ) where
  pub too_many : 4 < states → result_verdict S states table_room marks_room ≡ refused 53 states
  too_many h = then_refused _ _ 53 states (refuse_if_refused _ 53 states (lt-ltb 4 states h))

  module _ (few : states ≤ 4) where
    behind_states : refuse_if (ltb 4 states) 53 states ≡ fine
    behind_states = refuse_if_passed _ 53 states (le-ltb 4 states few)

    pub no_table : table_room < table_length S states → result_verdict S states table_room marks_room ≡ refused 56 0
    no_table h = then_passed _ _ behind_states ∙ table_short S states table_room marks_room h

    pub no-marks : table_length S states ≤ table_room → marks_room < states → result_verdict S states table_room marks_room ≡ refused 56 1
    no-marks long h = then_passed _ _ behind_states ∙ marks_short S states table_room marks_room long h

    pub result_fits : table_length S states ≤ table_room → states ≤ marks_room → result_verdict S states table_room marks_room ≡ fine
    result_fits long h = then_passed _ _ behind_states ∙ buffers_fit S states table_room marks_room long h
