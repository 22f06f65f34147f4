-- Columns: digits written from the last place to the first. The number asked for is the digits of what is left in front
-- of those written.
use mathlib.Core.Path.{◌≡◌, refl, ap, ap₂, sym, ◌∙◌}
use mathlib.Core.List.{List, ◌∷◌}
use Prim.Native.Nat.{ℕ, zero, suc, ◌+◌, ◌*◌, ◌-◌, ◌/◌, ◌%◌, ◌^◌, ◌≤◌, ◌<◌}
use native.Mathlib.Omega.{arith}
use lib.Pow.{pow-add}
use lib.ListN.{length, drop, set, replicate, length-set}
use lib.Seq.{drop-cons, drop-set-lt, get_or-set_same}
use borrow.Author.Tests.{lt-ltb, le-ltb}
use Rattle.printing.specs.Decimals.{digits_onto, decimal}

pub record Column (value : ℕ) (bytes : List ℕ) (first rest : ℕ) : Type 0 where
  pub size : length bytes ≡ 20
  pub within : first < 20
  pub small : rest < 10 ^ (first + 1)
  pub so_far : digits_onto (suc first) rest (drop (suc first) bytes) ≡ decimal value

pub column_start : (value : ℕ) → value < 18446744073709551616 → Column value (replicate 20 48) 19 value
unfolding decimal
column_start value h = record { size = refl; within = omega arith; small = omega arith; so_far = refl }

-- what stands from a written place on
written_place : (bytes : List ℕ) (i v : ℕ) → i < length bytes → drop i (set bytes i v) ≡ v ∷ drop (suc i) bytes
written_place bytes i v h =
    drop-cons (set bytes i v) i 0 (rw (length-set bytes i v) h)
    ∙ ap₂ ◌∷◌ (get_or-set_same bytes i v 0 h) (drop-set-lt (suc i) bytes i v (omega arith))

pub column_room : {value : ℕ} {bytes : List ℕ} (first rest : ℕ) → Column value bytes first rest → 10 ≤ rest → 1 ≤ first
column_room zero rest k h = absurd (let s : rest < 10 ^ (0 + 1) = k.small in omega arith)
column_room (suc n) rest k h = omega arith

module _ {value : ℕ} {bytes : List ℕ} where
  pub column_more : (first rest : ℕ) → Column value bytes first rest → 10 ≤ rest → (d : ℕ) → d ≡ 48 + rest % 10
      → Column value (set bytes first d) (first - 1) (rest / 10)
  unfolding digits_onto
  column_more zero rest k h d e = absurd (let s : rest < 10 ^ (0 + 1) = k.small in omega arith)
  column_more (suc n) rest k h d e =
      let s : rest < 10 ^ (suc n + 1) = k.small in
      let p : 10 ^ (suc n + 1) ≡ 10 ^ suc n * 10 = pow-add 10 (suc n) 1 in
      let l : length bytes ≡ 20 = k.size in
      let w : suc n < 20 = k.within in
      let back : suc n - 1 ≡ n = omega arith in
      let up : n + 1 ≡ suc n = omega arith in
      let next : rest / 10 < 10 ^ suc n = omega arith in
      let step : digits_onto (suc n) (rest / 10) ((48 + rest % 10) ∷ drop (suc (suc n)) bytes) ≡ decimal value =
      sym (rw (le-ltb rest 10 h)) ∙ k.so_far in
      record {
        size = length-set bytes (suc n) d ∙ l;
        within = omega arith;
        small = rw (back, up) next;
        so_far =
            ap (λ (m : ℕ). digits_onto (suc m) (rest / 10) (drop (suc m) (set bytes (suc n) d))) back
            ∙ ap (digits_onto (suc n) (rest / 10)) (written_place bytes (suc n) d (omega arith) ∙ ap (λ (x : ℕ). x ∷ drop (suc (suc n)) bytes) e)
            ∙ step;
      }

  pub column_end : (first rest : ℕ) → Column value bytes first rest → rest < 10 → (d : ℕ) → d ≡ 48 + rest % 10 → drop first (set bytes first d) ≡ decimal value
  unfolding digits_onto
  column_end first rest k h d e =
      let l : length bytes ≡ 20 = k.size in
      let w : first < 20 = k.within in
      let same : d ≡ 48 + rest = omega arith in
      written_place bytes first d (omega arith)
      ∙ ap (λ (x : ℕ). x ∷ drop (suc first) bytes) same
      ∙ sym (rw (lt-ltb rest 10 h))
      ∙ k.so_far

pub ruleset columns = (column_start, column_end)
