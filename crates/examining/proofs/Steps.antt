-- Each refusal, and acceptance, as the definition gives them; what a prepared contract and a list of a good length have.
use mathlib.Core.Path.{◌≡◌, ap, sym, ◌∙◌, ap₂}
use mathlib.Core.Bool.{Bool, true, false, not, ◌||◌}
use mathlib.Core.List.{List, [], ◌∷◌, ◌++◌}
use Prim.Native.Nat.{ℕ, ◌*◌, ◌%◌, ◌+◌, ◌<◌, ◌≤◌}
use Rattle.std.specs.Prelude.{Some, None}
use lib.Dec.{eqb, ltb}
use lib.ListN.{length}
use Rattle.foundation.specs.Search.{first, first_below, first_cong, first_at, first_none}
use Rattle.model.specs.Tables.{Contract}
use Rattle.model.specs.Facts.{fact_total}
use Rattle.model.specs.Answers.{Verdict, fine, refused, ◌then◌, refuse_if, refuse_first}
use Rattle.model.specs.Admission.{admission, admit}
use Rattle.model.specs.Kinds.{empty_kind, breaks}
use Rattle.model.specs.Examining.{most_kinds, sent_count, five_words, sent_kind, holds, length_verdict, empty_verdict, closed_verdict, breaking_verdict, examining}
use Rattle.model.proofs.Laws.Established.{Established}
use Rattle.model.proofs.Laws.Masked.{breaks_masked}
use Rattle.model.proofs.Rounds.Buffers.{length_empty_kind}
use Rattle.answers.specs.Numbers.{contract_refusal}
use Rattle.answers.specs.declared.ContractFault.{ContractFault}
use Rattle.answers.proofs.Answered.{refused_as}
use Rattle.admission_tables.proofs.Found.{found_refused, none_fine}
use Rattle.prepared.specs.Parts.{contract_in, Ready}
use Rattle.prepared.specs.declared.Parts.{Parts}
use Rattle.preparing.specs.Packing.{Prepares, Covered, covered}
use Rattle.breaking.specs.declared.Verdicts.{Verdicts}
use Rattle.breaking.specs.Verdicts.{VerdictsOf, breaking_is}
use Rattle.shown_kinds.specs.Chains.{some_looks_so}
use Rattle.closure.specs.Search.{Searchable}
use Rattle.closure.proofs.Searching.{search_holds}
use Rattle.examining.specs.Answers.{verdict_in, list_verdict, breaking_at}
use native.Mathlib.Omega.{arith}
use native.Mathlib.Decide.{ℕ_discrete}
use borrow.Author.Tests.{not-false, ltb-false}
use Rattle.kind_masks.specs.Mask.{mask_of}
use Rattle.foundation.specs.TestLaws.{or_second}

module _ (C : Contract) (words : List ℕ) where
  pub refused_contract : (fault : ContractFault) → contract_refusal fault ≡ admit C → verdict_in (contract_refusal fault) ≡ examining C words
  unfolding admit examining ◌then◌
  refused_contract fault e = let r = refused_as fault (admission C) e in rw (r.verdict, r.says)

  -- a good length
  short : (not (eqb (length words % 5) 0) || ltb (5 * most_kinds) (length words)) ≡ false → length words ≤ 20480
  short good = ltb-false _ _ (or_second (not (eqb (length words % 5) 0)) _ good)

  pub refused_length : admission C ≡ fine → (not (eqb (length words % 5) 0) || ltb (5 * most_kinds) (length words)) ≡ true
      → refused 70 (length words) ≡ examining C words
  unfolding examining length_verdict ◌then◌ refuse_if
  refused_length e wrong = rw (e, wrong)

  pub examined_list : admission C ≡ fine → (not (eqb (length words % 5) 0) || ltb (5 * most_kinds) (length words)) ≡ false
      → {verdict : Verdict} (D : Contract) → D ≡ C → verdict ≡ list_verdict D words → verdict ≡ examining C words
  unfolding examining length_verdict ◌then◌ refuse_if
  examined_list e good D same told = rw (e, good) (rw same at told)

  -- what is asked of a prepared contract and a list of a good length
  pub made_ready : {p : Parts} {table left_masks right_masks : List ℕ} {facts : ℕ} → Prepares C p table left_masks right_masks
      → facts ≡ fact_total C.output.states C.transformation.counts
      → (not (eqb (length words % 5) 0) || ltb (5 * most_kinds) (length words)) ≡ false
      → Ready p table × Covered (contract_in p table) left_masks right_masks
      × (facts ≡ fact_total (contract_in p table).output.states (contract_in p table).transformation.counts)
      × (length words ≤ 20480)
  made_ready made facts good = (
    made.ready,
    covered made,
    facts ∙ ap (λ (D : Contract). fact_total D.output.states D.transformation.counts) (sym made.contract),
    short good,
  )

  -- the four verdicts on a list
  pub refused_empty : holds C words (empty_kind C) ≡ false → refused 71 0 ≡ list_verdict C words
  unfolding empty_verdict ◌then◌ refuse_if
  refused_empty missing = rw missing

  empty_passed : holds C words (empty_kind C) ≡ true → list_verdict C words ≡ (closed_verdict C words then breaking_verdict C words)
  unfolding empty_verdict ◌then◌ refuse_if
  empty_passed held = rw held

  pub refused_open : (number place : ℕ) → holds C words (empty_kind C) ≡ true → refused number place ≡ closed_verdict C words
      → refused number place ≡ list_verdict C words
  unfolding ◌then◌
  refused_open number place held e = sym (empty_passed held ∙ rw (← e))

  closed_passed : holds C words (empty_kind C) ≡ true → fine ≡ closed_verdict C words → list_verdict C words ≡ breaking_verdict C words
  unfolding ◌then◌
  closed_passed held e = empty_passed held ∙ rw (← e)

  -- the search for a breaking kind is the definition's
  module _ (known : Established C) (v : Verdicts) (of : VerdictsOf C.input.marks C.output.marks v) where
    breaking_same : first (breaking_at v words) (sent_count words) ≡ first (λ k. breaks C (sent_kind C words k)) (sent_count words)
    breaking_same =
        first_cong (breaking_at v words) (λ k. breaks C (sent_kind C words k)) (sent_count words)
        (λ k h. breaking_is C known v of _ ∙ sym (breaks_masked C known (five_words words k)))

    search_verdict : refuse_first 73 (breaking_at v words) (sent_count words) ≡ breaking_verdict C words
    unfolding breaking_verdict refuse_first
    search_verdict = rw breaking_same

    module _ (held : holds C words (empty_kind C) ≡ true) (closed : fine ≡ closed_verdict C words) where
      pub refused_breaking : (kind : ℕ) → Some kind ≡ first_below (breaking_at v words) (sent_count words) → refused 73 kind ≡ list_verdict C words
      refused_breaking kind found = sym (closed_passed held closed ∙ sym search_verdict ∙ found_refused (breaking_at v words) (sent_count words) 73 kind found)

      pub accepted_list : None ≡ first_below (breaking_at v words) (sent_count words) → fine ≡ list_verdict C words
      accepted_list found = sym (closed_passed held closed ∙ sym search_verdict ∙ none_fine (breaking_at v words) (sent_count words) 73 found)

-- the search of the list for the empty forest's kind
pub search_empty : (C : Contract) → Established C → (words mask chains kind : List ℕ) {found : Bool} → Searchable C words mask chains
    → kind ≡ empty_kind C ++ (0 ∷ [])
    → found ≡ some_looks_so words mask (sent_count words) kind
    → found ≡ holds C words (empty_kind C)
search_empty C known words mask chains kind searchable is told =
    told ∙ ap (some_looks_so words mask (sent_count words)) is ∙ search_holds C known words mask chains searchable (empty_kind C) (length_empty_kind C)

-- the search for a breaking kind, kind by kind
module _ (v : Verdicts) (words : List ℕ) where
  abbrev pub NoneBreaks : ℕ → Type 0
  NoneBreaks k = (j : ℕ) → j < k → breaking_at v words j ≡ false

  pub none_more : (k : ℕ) → breaking_at v words k ≡ false → NoneBreaks k → NoneBreaks (k + 1)
  none_more k here none j h = go (ℕ_discrete j k)
    where
      go : Dec (j ≡ k) → breaking_at v words j ≡ false
      go (yes e) = ap (breaking_at v words) e ∙ here
      go (no ne) = none j (omega arith)

  pub breaks_at : (k n : ℕ) → k < n → breaking_at v words k ≡ true → NoneBreaks k → k ≡ first (breaking_at v words) n
  breaks_at k n h here none = sym (first_at (breaking_at v words) n k h none here)

  pub none_breaks : (k n : ℕ) → n ≤ k → k ≤ n → NoneBreaks k → k ≡ first (breaking_at v words) n
  none_breaks k n a b none = let all : k ≡ n = omega arith in all ∙ sym (first_none (breaking_at v words) n (λ j h. none j (omega arith)))

-- what the test of a search tells
pub told_missing : (found held : Bool) → found ≡ held → not found ≡ true → held ≡ false
told_missing false held same missing = sym same
told_missing true held same missing = sym same ∙ sym missing

pub told_held : (found held : Bool) → found ≡ held → not found ≡ false → held ≡ true
told_held found held same there = sym same ∙ not-false found there

-- the mask of these numbers of states and facts
pub mask-of : (states facts : ℕ) {mask : List ℕ} {S F : ℕ} → mask ≡ mask_of states facts → states ≡ S → facts ≡ F → mask ≡ mask_of S F
mask-of states facts is s f = is ∙ ap₂ mask_of s f
