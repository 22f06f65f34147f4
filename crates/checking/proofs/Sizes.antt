-- The sizes of the limit and the buffers: which one is wrong first, and what holds where none is.
use Rattle.std.specs.Prelude.{◌≡◌, true, false, ◌||◌, List, ℕ, zero, suc, ◌*◌, ◌<◌, ◌≤◌, ltb, length, Some, None}
use Rattle.std.proofs.Common.{arith, sym}
use borrow.Author.Tests.{eq-eqb, ne_eqb, eqb-true, ltb-false, not-false}
use Rattle.foundation.specs.Search.{first_below, below_at, below_none, first, first_clear}
use Rattle.foundation.specs.TestLaws.{or_first, or_second}
use Rattle.model.specs.Tables.{Contract}
use Rattle.model.specs.Checking.{limit_wrong}
use Rattle.kind_lists.specs.Listing.{Room}

pub limit_few : (L : ℕ) → (ltb L 1 || ltb 512 L) ≡ false → L ≤ 512
limit_few L e = ltb-false 512 L (or_second (ltb L 1) (ltb 512 L) e)

module _ (C : Contract) (L rows words : ℕ) where
  pub wrong_limit : (ltb L 1 || ltb 512 L) ≡ true → Some 0 ≡ first_below (limit_wrong C L rows words) 3
  wrong_limit e = sym (below_at (limit_wrong C L rows words) 3 0 (omega arith) (λ j l. absurd (omega arith)) e)

  module _ (a : (ltb L 1 || ltb 512 L) ≡ false) where
    pub wrong_rows : (rows ≡ 3 * L → ⊥) → Some 1 ≡ first_below (limit_wrong C L rows words) 3
    wrong_rows ne = sym (below_at (limit_wrong C L rows words) 3 1 (omega arith) below (rw (ne_eqb rows (3 * L) ne)))
      where
        below : (j : ℕ) → j < 1 → limit_wrong C L rows words j ≡ false
        below zero l = a
        below (suc j) l = absurd (omega arith)

    module _ (b : rows ≡ 3 * L) where
      before : (j : ℕ) → j < 2 → limit_wrong C L rows words j ≡ false
      before zero l = a
      before (suc zero) l = rw (eq-eqb rows (3 * L) b)
      before (suc (suc j)) l = absurd (omega arith)

      pub wrong_words : (words ≡ 5 * L → ⊥) → Some 2 ≡ first_below (limit_wrong C L rows words) 3
      wrong_words ne = sym (below_at (limit_wrong C L rows words) 3 2 (omega arith) before (rw (ne_eqb words (5 * L) ne)))

      pub none-wrong : words ≡ 5 * L → None ≡ first_below (limit_wrong C L rows words) 3
      none-wrong w = sym (below_none (limit_wrong C L rows words) 3 all)
        where
          all : (j : ℕ) → j < 3 → limit_wrong C L rows words j ≡ false
          all zero l = a
          all (suc zero) l = before 1 (omega arith)
          all (suc (suc zero)) l = rw (eq-eqb words (5 * L) w)
          all (suc (suc (suc j))) l = absurd (omega arith)

-- where none is wrong, there is room
module _ (C : Contract) (L : ℕ) (rows words : List ℕ) where
  module _ (clear : (j : ℕ) → j < 3 → limit_wrong C L (length rows) (length words) j ≡ false) where
    pub room_clear : Room L 0 rows words
    room_clear =
        record {
          few = limit_few L (clear 0 (omega arith));
          used = omega arith;
          row_room = eqb-true _ _ (not-false _ (clear 1 (omega arith)));
          word_room = eqb-true _ _ (not-false _ (clear 2 (omega arith)));
        }

    pub row_clear : 1 ≤ L
    row_clear = ltb-false L 1 (or_first (ltb L 1) (ltb 512 L) (clear 0 (omega arith)))

  module _ (place : ℕ) (e : place ≡ first (limit_wrong C L (length rows) (length words)) 3) (h : 3 ≤ place) where
    clear : (j : ℕ) → j < 3 → limit_wrong C L (length rows) (length words) j ≡ false
    clear = first_clear (limit_wrong C L (length rows) (length words)) 3 (omega arith)

    pub has_room : Room L 0 rows words
    has_room = room_clear clear

    pub has_row : 1 ≤ L
    has_row = row_clear clear
