-- Offsets of facts: one procedure more, and a bound that keeps every number of facts small.
use mathlib.Core.Path.{◌≡◌, refl, sym, ap}
use mathlib.Core.List.{List, [], ◌∷◌}
use Prim.Native.Nat.{ℕ, zero, suc, ◌+◌, ◌^◌, ◌<◌, ◌≤◌}
use native.Mathlib.Nat.{not-suc-le-zero, le_of_suc-le-suc, le_trans, pow-le-pow_left, pow-le-pow_right}
use native.Mathlib.Numerals.{add-one}
use native.Mathlib.Omega.{arith}
use lib.ListN.{length, take}
use native.Mathlib.Decide.{dec_lt}
use Rattle.std.proofs.lemmas.List.{length-take, get_or-take, get_or_past}
use Rattle.model.specs.Tables.{count_of}
use Rattle.model.specs.Facts.{offset, fact_total}
use Rattle.numbering.specs.Counts.{SmallCounts}

pub offset_zero : (O : ℕ) (counts : List ℕ) → offset O counts 0 ≡ 0
unfolding offset
offset_zero O [] = refl
offset_zero O (k ∷ counts) = refl

-- the next offset is larger by the facts of the procedure passed
offset_suc : (O : ℕ) (counts : List ℕ) (p : ℕ) → p < length counts → offset O counts (suc p) ≡ offset O counts p + O ^ suc (count_of counts p)
unfolding offset
offset_suc O [] p h = absurd (not-suc-le-zero h)
offset_suc O (k ∷ counts) zero h = rw (offset_zero O counts) (omega arith)
offset_suc O (k ∷ counts) (suc p) h = rw (offset_suc O counts p (le_of_suc-le-suc h)) (omega arith)

pub offset_more : (O : ℕ) (counts : List ℕ) (p : ℕ) → p < length counts → offset O counts (p + 1) ≡ offset O counts p + O ^ suc (count_of counts p)
offset_more O counts p h = rw (add-one) (offset_suc O counts p h)

-- at most four states and two parameters: a procedure has at most 64 facts
pub facts_small : (O count : ℕ) → O ≤ 4 → count ≤ 2 → O ^ suc count ≤ 64
facts_small O count o k = le_trans (pow-le-pow_left o (suc count)) (pow-le-pow_right {n = 4} (omega arith) (let h : suc count ≤ 3 = omega arith in h))

-- the facts of the procedures before p are those of as many counts
pub total_before : (O : ℕ) (counts : List ℕ) (p : ℕ) → p ≤ length counts → fact_total O (take p counts) ≡ offset O counts p
unfolding offset
total_before O counts zero h = sym (offset_zero O counts)
total_before O [] (suc p) h = absurd (omega arith)
total_before O (k ∷ counts) (suc p) h = ap (λ n. O ^ suc k + n) (total_before O counts p (le_of_suc-le-suc h))

-- and these are small too
pub small_before : (O : ℕ) (counts : List ℕ) (p : ℕ) → SmallCounts O counts → SmallCounts O (take p counts)
small_before O counts p s =
    record {
      states≥ = s.states≥;
      states≤ = s.states≤;
      procedures≤ = omega (arith, length-take p counts, s.procedures≤);
      count≤ = λ q. taken q (dec_lt q p);
    }
  where
    taken : (q : ℕ) → Dec (q < p) → count_of (take p counts) q ≤ 2
    taken q (yes h) = rw (get_or-take p counts q 0 h) (s.count≤ q)
    taken q (no h) = let end : length (take p counts) ≤ q = omega (arith, length-take p counts) in rw (get_or_past (take p counts) q 0 end) (omega arith)

-- at most four states: a power to the third is at most 64
power_small : (O n : ℕ) → O ≤ 4 → n ≤ 3 → O ^ n ≤ 64
power_small O n o h = le_trans (pow-le-pow_left o n) (pow-le-pow_right {n = 4} (omega arith) h)
