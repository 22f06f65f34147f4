-- What comes back, from what the tests told and what was written; and what is known of the types behind the tests.
use mathlib.Core.Path.{◌≡◌, refl, sym, ◌∙◌}
use mathlib.Core.Bool.{not}
use mathlib.Core.List.{List, ◌++◌}
use Prim.Native.Nat.{ℕ, ◌≤◌}
use native.Mathlib.Nat.{mul-le-mul}
use lib.Dec.{eqb}
use lib.ListN.{length, drop}
use Rattle.model.specs.Tables.{OutputType}
use Rattle.model.specs.Answers.{Verdict, fine, refused, refuse_if, ◌then◌}
use Rattle.model.specs.Admission.{table_length}
use Rattle.model.specs.Merging.{pair_count, Merged, merged, not_merged, type_verdict, FaultlessType, merged_type, merging_verdict, merging, Mergeable}
use Rattle.model.proofs.Laws.Answers.{then_assoc, then_fine, then_passed, then_refused}
use Rattle.model.proofs.Laws.Merging.{merging_refused, merging_fine, table_alone, marks_alone}
use Rattle.model.proofs.Meaning.Merging.{GoodType, faultless_good, type_fine}
use Rattle.model.proofs.Meaning.MergingAnswers.{fine_mergeable}
use Rattle.merging_tests.specs.declared.OutputType as code
use Rattle.merging_tests.specs.Answers.{type_handed, types_verdict, result_verdict}
use Rattle.merging_pairs.specs.Types.{table_only, marks_only, Few}
use Rattle.merging.specs.Answers.{Merges}

-- what is handed in: two types, each with its symbol count, and the buffers for the result
pub record Handed : Type 0 where
  pub symbols : ℕ
  pub first : OutputType
  pub second_symbols : ℕ
  pub second : OutputType
  pub table_buffer : List ℕ
  pub marks_buffer : List ℕ

-- the types and the buffers that the code is handed
abbrev pub handed : (first second : code.OutputType) (table_buffer marks_buffer : List ℕ) → Handed
handed first second table_buffer marks_buffer =
    record {
      symbols = first.symbols;
      first = type_handed first;
      second_symbols = second.symbols;
      second = type_handed second;
      table_buffer = table_buffer;
      marks_buffer = marks_buffer;
    }

module _ (h : Handed) where
  abbrev S : ℕ
  S = h.symbols

  abbrev Y : OutputType
  Y = h.first

  abbrev Z : OutputType
  Z = h.second

  abbrev verdict : Verdict
  verdict = merging_verdict S Y h.second_symbols Z h.table_buffer h.marks_buffer

  abbrev pub result : Merged
  result = merging S Y h.second_symbols Z h.table_buffer h.marks_buffer

  abbrev pub of_types : Verdict
  of_types = types_verdict S Y h.second_symbols Z

  abbrev pub of_result : Verdict
  of_result = result_verdict S (pair_count Y Z) (length h.table_buffer) (length h.marks_buffer)

  -- what is refused, in two parts
  two_parts : verdict ≡ (of_types then of_result)
  unfolding merging_verdict
  two_parts =
      rw (
        then_assoc (type_verdict 51 S Y) (type_verdict 52 h.second_symbols Z then counts) of_result,
        then_assoc (type_verdict 52 h.second_symbols Z) counts of_result,
      )
    where
      counts : Verdict
      counts = refuse_if (not (eqb S h.second_symbols)) 50 h.second_symbols

  refused_result : (number place : ℕ) → verdict ≡ refused number place → Merges (not_merged number place) h.table_buffer h.marks_buffer result
  refused_result number place e =
      rw (merging_refused S Y h.second_symbols Z h.table_buffer h.marks_buffer number place e) (refl, refl, refl)

  pub types_failed : (number place : ℕ) → refused number place ≡ of_types → Merges (not_merged number place) h.table_buffer h.marks_buffer result
  types_failed number place e = refused_result number place (two_parts ∙ then_refused _ _ number place (sym e))

  -- behind the tests of the types
  module _ (passed : fine ≡ of_types) where
    pub types_known : FaultlessType S Y × FaultlessType h.second_symbols Z
    types_known =
        let (one, rest) = then_fine _ _ (sym passed) in
        ((type_fine S Y 51).0 one, (type_fine h.second_symbols Z 52).0 (then_fine _ _ rest).0)

    pub few_states : pair_count Y Z ≤ 16
    few_states = mul-le-mul types_known.0.states.1 types_known.1.states.1

    pub result_failed : (number place : ℕ) → refused number place ≡ of_result → Merges (not_merged number place) h.table_buffer h.marks_buffer result
    result_failed number place e = refused_result number place (two_parts ∙ then_passed _ _ (sym passed) ∙ sym e)

    -- behind all tests
    module _ (fits : fine ≡ of_result) where
      nothing_refused : verdict ≡ fine
      nothing_refused = two_parts ∙ then_passed _ _ (sym passed) ∙ sym fits

      pub mergeable : Mergeable S Y h.second_symbols Z h.table_buffer h.marks_buffer
      mergeable = fine_mergeable S Y h.second_symbols Z h.table_buffer h.marks_buffer nothing_refused

      pub few : Few Y.states Z.states
      few =
          record {
            some_first = mergeable.first.states.0;
            some_second = mergeable.second.states.0;
            few_first = mergeable.first.states.1;
            few_second = mergeable.second.states.1;
            few_pairs = mergeable.few;
          }

      pub good_first : GoodType S Y
      good_first = faultless_good S Y mergeable.first

      pub good_second : GoodType h.second_symbols Z
      good_second = faultless_good h.second_symbols Z mergeable.second

      pub both_written : (table marks : List ℕ)
          → table ≡ (merged_type S (table_only Y.states Y.table) (table_only Z.states Z.table)).table ++ drop (table_length S (pair_count Y Z)) h.table_buffer
          → marks ≡ (merged_type 1 (marks_only Y.states Y.marks) (marks_only Z.states Z.marks)).marks ++ drop (pair_count Y Z) h.marks_buffer
          → Merges (merged (pair_count Y Z)) table marks result
      both_written table marks written marked =
          rw (merging_fine S Y h.second_symbols Z h.table_buffer h.marks_buffer nothing_refused)
          (refl, written ∙ rw (table_alone S Y Z), marked ∙ rw (marks_alone S Y Z))
