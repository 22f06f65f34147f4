-- The reply of merging two output types, and what a caller in C or Rust may conclude from it: the reply and the closing buffers are those
-- of the definition, of which the model says what they mean; and a check with the type in these buffers is one of the merged contract.
use Rattle.std.specs.Prelude.{◌≡◌, refl, List, ℕ, eqb}
use Rattle.std.proofs.Common.{ap, subst, sym, ◌∙◌, arith, ne_eqb}
use Rattle.foundation.specs.Tests.{choose}
use Rattle.model.specs.Tables.{Contract, OutputType}
use Rattle.model.specs.Answers.{Verdict, fine, refused}
use Rattle.model.specs.Merging.{MergingAnswer, merged, not_merged, Merged, type_in, IsMerged, merging_verdict, merging, MergingMeans, MergedBy, with_output}
use Rattle.model.proofs.Laws.Merging.{merging_refused, merging_fine}
use Rattle.model.proofs.Meaning.MergingAnswers.{merging_number, merging_means}
use Rattle.checking.specs.Calls.{Call}
use Rattle.checking.specs.MergedCalls.{CallsMerged}
use Rattle.checking.proofs.Conclusions.Merged.{merged_calls}
use Rattle.goosedawn_c.specs.declared.merge.Merging.{Merging}

abbrev pub merging_reply : MergingAnswer → Merging
merging_reply (merged states) = record { states = states; number = 0; place = 0 }
merging_reply (not_merged number place) = record { states = 0; number = number; place = place }

-- a reply and what the two buffers then hold are those of the definition
abbrev pub MergesInto : Merging → (table marks : List ℕ) → Merged → Type 0
MergesInto r table marks result = (r ≡ merging_reply result.answer) × (table ≡ result.table) × (marks ≡ result.marks)

-- the answer of a reply
abbrev pub answer_of_merging : Merging → MergingAnswer
answer_of_merging r = choose (eqb r.number 0) (merged r.states) (not_merged r.number r.place)

module _ (S : ℕ) (Y : OutputType) (S' : ℕ) (Z : OutputType) (table_buffer marks_buffer : List ℕ) where
  abbrev result : Merged
  result = merging S Y S' Z table_buffer marks_buffer

  -- no two answers of merging have one reply: no refusal has the number 0
  pub answer-of-merging : answer_of_merging (merging_reply result.answer) ≡ result.answer
  answer-of-merging = go (merging_verdict S Y S' Z table_buffer marks_buffer) refl
    where
      go : (v : Verdict) → merging_verdict S Y S' Z table_buffer marks_buffer ≡ v → answer_of_merging (merging_reply result.answer) ≡ result.answer
      go fine e = rw (merging_fine S Y S' Z table_buffer marks_buffer e)
      go (refused number place) e =
          rw (
            merging_refused S Y S' Z table_buffer marks_buffer number place e,
            ne_eqb number 0 (λ zero. omega (arith, zero, merging_number S Y S' Z table_buffer marks_buffer number place e)),
          )

  -- by what `goosedawn_merge` promises
  pub merge_call : (r : Merging) (table marks : List ℕ) → MergesInto r table marks result
      → MergingMeans S Y S' Z table_buffer marks_buffer (record { answer = answer_of_merging r; table = table; marks = marks })
  merge_call r table marks promise =
      rw (ap answer_of_merging promise.0 ∙ answer-of-merging, promise.1, promise.2) (merging_means S Y S' Z table_buffer marks_buffer)

  -- the type that stands in the buffers is one that merging made, so that the law of merging (`merge_law`) speaks of it
  pub merge_makes : (r : Merging) (table marks : List ℕ) → MergesInto r table marks result
      → (n : ℕ) → answer_of_merging r ≡ merged n → MergedBy S Y Z (type_in S n table marks)
  merge_makes r table marks promise n told =
      record {
        second_symbols = S';
        table_buffer = table_buffer;
        marks_buffer = marks_buffer;
        states = n;
        answered = sym (ap answer_of_merging promise.0 ∙ answer-of-merging) ∙ told;
        made = rw (promise.1, promise.2);
      }

  -- with what `goosedawn_check` promises of three calls (`call_of`): the last of them with the type that stands in the buffers
  pub merge_and_check : (r : Merging) (table marks : List ℕ) → MergesInto r table marks result
      → (n : ℕ) → answer_of_merging r ≡ merged n
      → (C : Contract) → S ≡ C.transformation.symbols
      → {K L N : ℕ} (first : Call (with_output C Y) K) (second : Call (with_output C Z) L) (both : Call (with_output C (type_in S n table marks)) N)
      → CallsMerged C first second both
  merge_and_check r table marks promise n told C symbols first second both =
      merged_calls {C = C}
      (subst (λ (s : ℕ). IsMerged s Y Z (type_in S n table marks)) symbols ((merge_call r table marks promise).is_merged n told))
      first second both
