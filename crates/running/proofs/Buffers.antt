-- A row added behind the rows used: the buffer after three stores, and the step that it is; and a buffer that is cleared from a place on.
use mathlib.Core.Path.{◌≡◌, ap, ◌∙◌, sym}
use mathlib.Core.List.{List, [], ◌∷◌, ◌++◌, append_assoc}
use Prim.Native.Nat.{ℕ, suc, ◌+◌, ◌*◌, ◌-◌, ◌<◌, ◌≤◌, min, max}
use native.Mathlib.Numerals.{add-one}
use native.Mathlib.Omega.{arith}
use lib.ListN.{length, set, take, drop, replicate, length-set, length-take, replicate-append-replicate}
use lib.Seq.{take-suc-set, take_all}
use Rattle.std.proofs.Common.{append-nil, length-drop}
use Rattle.std.proofs.lemmas.List.{drop_all}
use borrow.Rule.Slice.PartMut.{mid_of, put_mid}
use borrow.Author.Tests.{lt-ltb, le-ltb}
use Rattle.foundation.specs.Lists.{zero_filled, take_clipped}
use Rattle.model.specs.Rows.{row_count}
use Rattle.model.specs.Running.{made, refused, add_row}
use Rattle.running.specs.declared.Tally.{Tally}
use Rattle.running.specs.Work.{work_of}

-- three numbers stored one behind another
take_stored : (l : List ℕ) (at a b c : ℕ) → at + 3 ≤ length l
    → take (at + 3) (set (set (set l at a) (at + 1) b) (at + 2) c) ≡ take at l ++ (a ∷ b ∷ c ∷ [])
take_stored l at a b c h =
    let one : List ℕ = set l at a in
    let two : List ℕ = set one (at + 1) b in
    let e₂ : take (at + 3) (set two (at + 2) c) ≡ take (at + 2) two ++ (c ∷ []) = rw (shift at 2) (take-suc-set two (at + 2) c (simp length-set (omega arith))) in
    let e₁ : take (at + 2) two ≡ take (at + 1) one ++ (b ∷ []) = rw (shift at 1) (take-suc-set one (at + 1) b (simp length-set (omega arith))) in
    let e₀ : take (at + 1) one ≡ take at l ++ (a ∷ []) = rw (add-one at) (take-suc-set l at a (omega arith)) in
    e₂ ∙ rw (e₁, e₀) (simp append_assoc)
  where
    shift : (n k : ℕ) → n + suc k ≡ suc (n + k)
    shift n k = omega arith

module _ (l : List ℕ) (tally : Tally) (at s a b : ℕ) (place : at ≡ 3 * tally.used) where
  pub row_added : at + 3 ≤ length l
      → add_row (row_count l) s a b (work_of tally l)
      ≡ made tally.used (work_of (record { used = tally.used + 1; calls = tally.calls }) (set (set (set l at s) (at + 1) a) (at + 2) b))
  unfolding add_row
  row_added h =
      let size : 3 * (tally.used + 1) ≡ at + 3 = omega arith in
      rw (lt-ltb tally.used (row_count l) (omega arith), size, take_stored l at s a b h, add-one tally.used, place)

  pub no_row_free : length l < at + 3 → add_row (row_count l) s a b (work_of tally l) ≡ refused 14 (row_count l)
  unfolding add_row
  no_row_free h = rw (le-ltb tally.used (row_count l) (omega arith))

-- a buffer whose numbers from a place on, or none where that is past its end, are zeros
pub cleared : (l zeros : List ℕ) (from kept : ℕ) → kept ≡ min from (length l) → zeros ≡ replicate (length (mid_of kept (length l - kept) l)) 0
    → put_mid kept (length l - kept) l zeros ≡ zero_filled (length l) (take from l)
unfolding zero_filled
cleared l zeros from kept e z =
    let many : length (drop kept l) ≡ length l - kept = length-drop kept l in
    let behind : drop (length l - kept) (drop kept l) ≡ [] = drop_all (length l - kept) (drop kept l) (omega arith) in
    let size : length (take kept l) ≡ kept = omega (arith, length-take kept l) in
    let count : length (take (length l - kept) (drop kept l)) ≡ length l - kept = omega (arith, length-take (length l - kept) (drop kept l)) in
    rw (behind, append-nil, take_clipped l from kept e, size) (ap (λ (r : List ℕ). take kept l ++ r) (z ∙ ap (λ (n : ℕ). replicate n 0) count))

-- one more zero behind the numbers that stay
pub zero_more : (kept l : List ℕ) (i k : ℕ) → i < length l → take i l ≡ kept ++ replicate k 0 → take (i + 1) (set l i 0) ≡ kept ++ replicate (k + 1) 0
zero_more kept l i k h e =
    rw (add-one i) (take-suc-set l i 0 h ∙ rw e (append_assoc kept (replicate k 0) (0 ∷ []) ∙ ap (λ (r : List ℕ). kept ++ r) (replicate-append-replicate k 1 0)))

-- at the end of the buffer it is the numbers that stay, with zeros behind them
pub zeros_to_end : (l before : List ℕ) (from i : ℕ) → length l ≡ length before → from ≤ i → length l ≤ i → i ≤ max (length before) from
    → take i l ≡ take from before ++ replicate (i - from) 0
    → l ≡ zero_filled (length before) (take from before)
unfolding zero_filled
zeros_to_end l before from i n low end high e =
    let count : i - from ≡ length before - length (take from before) = rw (length-take from before) (omega arith) in
    sym (take_all i l end) ∙ rw e (ap (λ (k : ℕ). take from before ++ replicate k 0) count)
