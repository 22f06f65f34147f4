-- What the answer of merging means: it is refused for the reasons that W-206 lists, and where it is not, the type that stands in the
-- buffers is the two types merged, and the rest of the buffers is kept.
use mathlib.Core.Path.{◌≡◌, refl, ap, sym, ◌∙◌}
use mathlib.Core.Bool.{not}
use mathlib.Core.List.{List, [], ◌∷◌}
use Prim.Native.Nat.{ℕ, ◌<◌, ◌≤◌}
use native.Mathlib.Omega.{arith}
use borrow.Author.Tests.{ltb-false, le-ltb, eq-eqb}
use lib.Dec.{eqb, ltb}
use lib.ListN.{length, drop}
use lib.Seq.{take_at, drop_at}
use Rattle.model.specs.Tables.{OutputType}
use Rattle.model.specs.Answers.{Verdict, fine, refused}
use Rattle.model.specs.Admission.{table_length}
use Rattle.model.specs.Refusals.{RefusesFor}
use Rattle.model.specs.Merging.{pair_count, merged_type, type_wrong, type_places, type_verdict, merged, not_merged, Merged, type_in, IsMerged, buffers_short, merging_verdict, merging, merging_reasons, Mergeable, MergingMeans}
use Rattle.model.proofs.Laws.Answers.{then_fine, then_passed, refuse_if_fine, refuse_if_passed, refuse_first_fine, then_numbers, refuse_if_numbers, refuse_first_numbers}
use Rattle.model.proofs.Laws.Tests.{not_eqb}
use Rattle.model.proofs.Laws.Merging.{buffers_fit, merging_refused, merging_fine, merged_states, table-long, marks-long}
use Rattle.model.proofs.Meaning.Verdicts.{then_for, only_for, lowest_for, less, unequal}
use Rattle.model.proofs.Meaning.Merging.{type_fine, merged_means}

not_refused : (n number place : ℕ) → not_merged number place ≡ merged n → ⊥
not_refused n number place e = let z : ◌≡◌ {A = ℕ} 0 1 = cc in omega arith

module _ (S : ℕ) (Y : OutputType) (S' : ℕ) (Z : OutputType) (table_buffer marks_buffer : List ℕ) where
  abbrev verdict : Verdict
  verdict = merging_verdict S Y S' Z table_buffer marks_buffer

  abbrev result : Merged
  result = merging S Y S' Z table_buffer marks_buffer

  refuses_for : RefusesFor (merging_reasons S Y S' Z table_buffer marks_buffer) verdict
  unfolding merging_verdict type_verdict
  refuses_for =
      then_for _ _ _ _ (lowest_for 51 (type_wrong S Y) (type_places Y)) λ one.
      then_for _ _ _ _ (lowest_for 52 (type_wrong S' Z) (type_places Z)) λ two.
      then_for _ _ _ _ (only_for (not (eqb S S')) (S ≡ S' → ⊥) 50 S' (unequal S S')) λ same.
      then_for _ _ _ _ (only_for (ltb 4 (pair_count Y Z)) (4 < pair_count Y Z) 53 (pair_count Y Z) (less 4 (pair_count Y Z))) λ few.
      lowest_for 56 (buffers_short S Y S' Z table_buffer marks_buffer) 2

  -- no refusal has the number 0
  pub merging_number : (number place : ℕ) → verdict ≡ refused number place → 1 ≤ number
  unfolding merging_verdict type_verdict
  merging_number =
      then_numbers Some _ _ (refuse_first_numbers Some 51 _ _ (omega arith))
      (then_numbers Some _ _ (refuse_first_numbers Some 52 _ _ (omega arith))
      (then_numbers Some _ _ (refuse_if_numbers Some _ 50 _ (omega arith))
      (then_numbers Some _ _ (refuse_if_numbers Some _ 53 _ (omega arith)) (refuse_first_numbers Some 56 _ _ (omega arith)))))
    where
      Some : ℕ → Type 0
      Some number = 1 ≤ number

  pub fine_mergeable : verdict ≡ fine → Mergeable S Y S' Z table_buffer marks_buffer
  unfolding merging_verdict
  fine_mergeable e =
      let (one, r₁) = then_fine _ _ e in
      let (two, r₂) = then_fine _ _ r₁ in
      let (same, r₃) = then_fine _ _ r₂ in
      let (few, room) = then_fine _ _ r₃ in
      let long = refuse_first_fine 56 (buffers_short S Y S' Z table_buffer marks_buffer) 2 room in
      record {
        first = (type_fine S Y 51).0 one;
        second = (type_fine S' Z 52).0 two;
        symbols = not_eqb S S' (refuse_if_fine _ 50 S' same);
        few = ltb-false 4 (pair_count Y Z) (refuse_if_fine _ 53 (pair_count Y Z) few);
        table_room = ltb-false (length table_buffer) _ (long 0 (omega arith));
        marks_room = ltb-false (length marks_buffer) _ (long 1 (omega arith));
      }

  mergeable_fine : Mergeable S Y S' Z table_buffer marks_buffer → verdict ≡ fine
  unfolding merging_verdict
  mergeable_fine m =
      then_passed _ _ ((type_fine S Y 51).1 m.first)
      ∙ then_passed _ _ ((type_fine S' Z 52).1 m.second)
      ∙ then_passed _ _ (refuse_if_passed _ 50 S' (rw (eq-eqb S S' m.symbols)))
      ∙ then_passed _ _ (refuse_if_passed _ 53 (pair_count Y Z) (le-ltb 4 (pair_count Y Z) m.few))
      ∙ buffers_fit S (pair_count Y Z) _ _ m.table_room m.marks_room

  -- a refusal that is answered is the verdict's, and writes nothing
  answered_refused : (v : Verdict) → verdict ≡ v → (number place : ℕ) → result.answer ≡ not_merged number place
      → (verdict ≡ refused number place) × (result.table ∷ result.marks ∷ [] ≡ table_buffer ∷ marks_buffer ∷ [])
  answered_refused fine e number place a =
      absurd (not_refused (pair_count Y Z) number place (sym a ∙ ap (λ (m : Merged). m.answer) (merging_fine S Y S' Z table_buffer marks_buffer e)))
  answered_refused (refused n p) e number place a =
      let into = merging_refused S Y S' Z table_buffer marks_buffer n p e in
      let told : not_merged n p ≡ not_merged number place = sym (ap (λ (m : Merged). m.answer) into) ∙ a in
      let same : refused n p ≡ refused number place = cc in
      (e ∙ same, ap (λ (m : Merged). m.table ∷ m.marks ∷ []) into)

  answered_merged : (v : Verdict) → verdict ≡ v → (n : ℕ) → result.answer ≡ merged n → (verdict ≡ fine) × (n ≡ pair_count Y Z)
  answered_merged fine e n a =
      let told : merged (pair_count Y Z) ≡ merged n = sym (ap (λ (m : Merged). m.answer) (merging_fine S Y S' Z table_buffer marks_buffer e)) ∙ a in
      (e, cc)
  answered_merged (refused number place) e n a =
      absurd (not_refused n number place (sym (ap (λ (m : Merged). m.answer) (merging_refused S Y S' Z table_buffer marks_buffer number place e)) ∙ a))

  -- the type that stands in the buffers
  type_written : verdict ≡ fine → type_in S (pair_count Y Z) result.table result.marks ≡ merged_type S Y Z
  type_written e =
      rw (merging_fine S Y S' Z table_buffer marks_buffer e)
      (rw (
        take_at (merged_type S Y Z).table _ (table_length S (pair_count Y Z)) (table-long S Y Z),
        take_at (merged_type S Y Z).marks _ (pair_count Y Z) (marks-long S Y Z),
        ← merged_states S Y Z,
      )
      refl)

  module _ (n : ℕ) (a : result.answer ≡ merged n) where
    nothing_refused : verdict ≡ fine
    nothing_refused = (answered_merged verdict refl n a).0

    count : n ≡ pair_count Y Z
    count = (answered_merged verdict refl n a).1

    written_merged : IsMerged S Y Z (type_in S n result.table result.marks)
    written_merged =
        let m = fine_mergeable nothing_refused in
        rw (count, type_written nothing_refused) (merged_means S Y Z m.first (rw (← m.symbols) at m.second) m.few)

    table_kept : drop (table_length S n) result.table ≡ drop (table_length S n) table_buffer
    table_kept =
        rw (count, merging_fine S Y S' Z table_buffer marks_buffer nothing_refused)
        (drop_at (merged_type S Y Z).table _ (table_length S (pair_count Y Z)) (table-long S Y Z))

    marks-kept : drop n result.marks ≡ drop n marks_buffer
    marks-kept =
        rw (count, merging_fine S Y S' Z table_buffer marks_buffer nothing_refused)
        (drop_at (merged_type S Y Z).marks _ (pair_count Y Z) (marks-long S Y Z))

  pub merging_means : MergingMeans S Y S' Z table_buffer marks_buffer result
  merging_means =
      record {
        refuses =
            record {
              exactly = λ number place. (
                λ a. (refuses_for.refuses number place).0 (answered_refused verdict refl number place a).0,
                λ reason. ap (λ (m : Merged). m.answer) (merging_refused S Y S' Z table_buffer marks_buffer number place ((refuses_for.refuses number place).1 reason)),
              );
              nothing_written = λ number place a. (answered_refused verdict refl number place a).1;
            };
        merged_exactly = λ n. (
          λ a. (fine_mergeable (nothing_refused n a), count n a),
          λ (m, same). ap (λ (r : Merged). r.answer) (merging_fine S Y S' Z table_buffer marks_buffer (mergeable_fine m)) ∙ ap merged (sym same),
        );
        is_merged = written_merged;
        table_kept = table_kept;
        marks_kept = marks-kept;
      }
