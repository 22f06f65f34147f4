-- Marks of rows: a row that is not marked for a symbol agrees with an earlier row on what the symbol's mask shows.
use Rattle.std.specs.Prelude.{◌≡◌, List, [], ◌∷◌, Bool, true, false, ℕ, zero, suc, ◌≤◌, ◌<◌, length, get_or}
use Rattle.std.proofs.Common.{sym, arith, eqb-true}
use Rattle.std.specs.Int.Bits.{bit_and}
use Rattle.foundation.specs.Words.{bit}
use Rattle.classes.specs.Masks.{AgreeUnder, mask_in}
use Rattle.kind_slots.specs.Stored.{kind_in, padded_kind, same_words}
use Rattle.kind_slots.proofs.Same.{all_five}

-- what a mask shows of a kind
abbrev pub shown : (mask kind : List ℕ) → List ℕ
shown mask kind =
    bit_and (get_or kind 0 0) (get_or mask 0 0) ∷ bit_and (get_or kind 1 0) (get_or mask 1 0) ∷ bit_and (get_or kind 2 0) (get_or mask 2 0) ∷ bit_and (get_or kind 3 0) (get_or mask 3 0) ∷ bit_and (get_or kind 4 0) (get_or mask 4 0) ∷ 0 ∷ []

-- row i agrees with a kind on what a mask shows
abbrev pub agrees_under : List ℕ → ℕ → (kind mask : List ℕ) → Bool
agrees_under words i kind mask = same_words (shown mask (padded_kind words i)) (shown mask kind)

pub agrees-under : (words : List ℕ) (i j : ℕ) (masks : List ℕ) (s : ℕ) → agrees_under words i (padded_kind words j) (padded_kind masks s) ≡ true
    → AgreeUnder (mask_in masks s) (kind_in words j) (kind_in words i)
unfolding same_words
agrees-under words i j masks s t =
    let (h0, h1, h2, h3, h4) = all_five _ _ _ _ _ t in
    record { words = go (eqb-true _ _ h0) (eqb-true _ _ h1) (eqb-true _ _ h2) (eqb-true _ _ h3) (eqb-true _ _ h4) }
  where
    Same : ℕ → Type 0
    Same w = bit_and (get_or (kind_in words i) w 0) (get_or (mask_in masks s) w 0) ≡ bit_and (get_or (kind_in words j) w 0) (get_or (mask_in masks s) w 0)

    go : Same 0 → Same 1 → Same 2 → Same 3 → Same 4 → (w : ℕ) → w < 5
        → bit_and (get_or (kind_in words j) w 0) (get_or (mask_in masks s) w 0) ≡ bit_and (get_or (kind_in words i) w 0) (get_or (mask_in masks s) w 0)
    go h0 h1 h2 h3 h4 zero l = sym h0
    go h0 h1 h2 h3 h4 (suc zero) l = sym h1
    go h0 h1 h2 h3 h4 (suc (suc zero)) l = sym h2
    go h0 h1 h2 h3 h4 (suc (suc (suc zero))) l = sym h3
    go h0 h1 h2 h3 h4 (suc (suc (suc (suc zero)))) l = sym h4
    go h0 h1 h2 h3 h4 (suc (suc (suc (suc (suc w))))) l = absurd (omega arith)

-- some earlier row agrees with row j on what a mask shows
abbrev pub SomeEarlier : (words mask : List ℕ) (j : ℕ) → Type 0
SomeEarlier words mask j = (i : ℕ) × (i < j) × (agrees_under words i (padded_kind words j) mask ≡ true)

-- a word of marks of row j: a missing mark means an earlier row that agrees
pub record MarksOf (words masks : List ℕ) (symbols j w : ℕ) : Type 0 where
  pub unmarked : (s : ℕ) → 1 ≤ s → s < symbols → bit w s ≡ false → SomeEarlier words (padded_kind masks s) j

-- the rows from `before` to `stood` are marked, the earlier ones as before
pub record MarkedFrom (words masks : List ℕ) (symbols before stood : ℕ) (firsts marked : List ℕ) : Type 0 where
  pub long : length marked ≡ 512
  pub kept : (j : ℕ) → j < before → get_or marked j 0 ≡ get_or firsts j 0
  pub marks : (j : ℕ) → before ≤ j → j < stood → MarksOf words masks symbols j (get_or marked j 0)

-- the first row from a row on that is marked for symbol s, below `stood`, or `stood`
pub record NextMarked (firsts : List ℕ) (s from stood r : ℕ) : Type 0 where
  pub after : from ≤ r
  pub within : r ≤ stood
  pub passed : (i : ℕ) → from ≤ i → i < r → bit (get_or firsts i 0) s ≡ false
  pub marked : r < stood → bit (get_or firsts r 0) s ≡ true
