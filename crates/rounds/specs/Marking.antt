-- Marks of the rows between two rounds: a row that is not marked makes the same kinds as an earlier one.
use Rattle.std.specs.Prelude.{◌≡◌, List, false, ℕ, ◌≤◌, ◌<◌, length, get_or}
use Rattle.std.proofs.Common.{ap, sym, ◌∙◌, arith}
use Rattle.std.proofs.Math.Decide.{dec_lt}
use Rattle.foundation.specs.Words.{bit}
use Rattle.model.specs.Tables.{Contract}
use Rattle.model.specs.Facts.{on_side}
use Rattle.model.specs.Rounds.{kind_automaton, ListedKind, kind_at, rounds}
use Rattle.model.proofs.Laws.Established.{Established}
use Rattle.model.proofs.Rounds.Growth.{agree_state, rounds_beginning}
use Rattle.model.proofs.Rounds.Buffers.{beginning_five}
use Rattle.classes.specs.Masks.{AgreeUnder, agree_self, class_agree, mask_in, Covered}
use Rattle.kind_slots.specs.Stored.{kind_in}
use Rattle.kind_lists.specs.Held.{kind_held}
use Rattle.row_marks.specs.Marks.{agrees-under, MarksOf, MarkedFrom}
use Rattle.round_pairs.specs.Steps.{LeftSame, RightSame, LeftsMarked, RightsMarked}
use Rattle.rounds.specs.Between.{Between}

module _ (C : Contract) (known : Established C) (left_masks right_masks : List ℕ) (covered : Covered C left_masks right_masks)
    {limit height before stood : ℕ} {slots rows words : List ℕ} (b : Between C limit height before stood slots rows words) where
  -- the kind of a row that stands, in any list that has it
  held : (k : ℕ) → k < stood → (h : ℕ) → k < length (rounds (kind_automaton C) h) → kind_in words k ≡ kind_at C (rounds (kind_automaton C) h) k
  held k below h inside =
      let counted = b.standing.counted in
      let listed : List (ListedKind C) = rounds (kind_automaton C) height in
      let start = rounds_beginning (kind_automaton C) in
      kind_held C limit rows words listed b.list.holds (beginning_five C listed (start height)) k (omega arith)
      ∙ agree_state (kind_automaton C) listed (rounds (kind_automaton C) h) (start height) (start h) k (omega arith) inside

  -- an earlier row that agrees under the mask
  agrees : (masks : List ℕ) (symbols s j w : ℕ) → 1 ≤ s → s < symbols → j < stood → MarksOf words masks symbols j w → bit w s ≡ false
      → (e : ℕ) × (e < j)
      × ((height : ℕ) → j < length (rounds (kind_automaton C) height) → AgreeUnder (mask_in masks s) (kind_at C (rounds (kind_automaton C) height) j) (kind_at C (rounds (kind_automaton C) height) e))
  agrees masks symbols s j w h1 h_s hj m unmarked =
      let (e, le, t) = m.unmarked s h1 h_s unmarked in
      (e, le, λ height inside. rw (held j hj height inside, held e (omega arith) height (omega arith)) at (agrees-under words e j masks s t))

  pub lefts_marked : {lefts lefts' : List ℕ} → LeftsMarked C before lefts → MarkedFrom words left_masks C.transformation.symbols before stood lefts lefts'
      → LeftsMarked C stood lefts'
  lefts_marked {lefts} {lefts'} m new = record { same = λ s i h1 h_s hi u. go s i h1 h_s hi u (dec_lt i before); long = new.long }
    where
      go : (s i : ℕ) → 1 ≤ s → s < C.transformation.symbols → i < stood → bit (get_or lefts' i 0) s ≡ false → Dec (i < before) → LeftSame C s i
      go s i h1 h_s hi unmarked (yes l) = m.same s i h1 h_s l (ap (λ (w : ℕ). bit w s) (sym (new.kept i l)) ∙ unmarked)
      go s i h1 h_s hi unmarked (no l) =
          let (e, le, a) = agrees left_masks C.transformation.symbols s i (get_or lefts' i 0) h1 h_s hi (new.marks i (omega arith) hi) unmarked in
          (e, le, λ height inside q. class_agree C known s (on_side (mask_in left_masks s) (mask_in right_masks s)) (covered.covers s h1 h_s) _ _ q q (a height inside) (agree_self (mask_in right_masks s) q))

  pub rights_marked : {rights rights' : List ℕ} → RightsMarked C before rights → MarkedFrom words right_masks C.transformation.symbols before stood rights rights'
      → RightsMarked C stood rights'
  rights_marked {rights} {rights'} m new = record { same = λ s j h1 h_s hj u. go s j h1 h_s hj u (dec_lt j before); long = new.long }
    where
      go : (s j : ℕ) → 1 ≤ s → s < C.transformation.symbols → j < stood → bit (get_or rights' j 0) s ≡ false → Dec (j < before) → RightSame C s j
      go s j h1 h_s hj unmarked (yes l) = m.same s j h1 h_s l (ap (λ (w : ℕ). bit w s) (sym (new.kept j l)) ∙ unmarked)
      go s j h1 h_s hj unmarked (no l) =
          let (e, le, a) = agrees right_masks C.transformation.symbols s j (get_or rights' j 0) h1 h_s hj (new.marks j (omega arith) hj) unmarked in
          (e, le, λ height inside q. class_agree C known s (on_side (mask_in left_masks s) (mask_in right_masks s)) (covered.covers s h1 h_s) q q _ _ (agree_self (mask_in left_masks s) q) (a height inside))
