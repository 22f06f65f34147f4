-- A list whose end is cleared, from the front: one more 0.
use mathlib.Core.Path.{◌≡◌, ap, sym, ◌∙◌}
use mathlib.Core.List.{List, [], ◌∷◌, ◌++◌, append_assoc, append-nil}
use Prim.Native.Nat.{ℕ, suc, ◌+◌, ◌-◌, ◌≤◌, ◌<◌}
use native.Mathlib.Numerals.{add-one}
use native.Mathlib.Omega.{arith}
use lib.ListN.{length, take, drop, set, replicate, get_or, length-append, length-take, length-drop, length-replicate, replicate-append-replicate, take-append-drop, drop_of_length-le}
use lib.Seq.{drop-cons, set_at, append_snoc}
use Rattle.foundation.specs.Lists.{zero_filled}

module _ (l : List ℕ) (n : ℕ) where
  -- the first n stay, those up to i are 0, the others are as they were
  abbrev pub cleared : ℕ → List ℕ
  cleared i = (take n l ++ replicate (i - n) 0) ++ drop i l

  module _ (i : ℕ) (a : n ≤ i) where
    length_front : i ≤ length l → length (take n l ++ replicate (i - n) 0) ≡ i
    length_front b = simp (length-append, length-take) (rw (length-replicate {A = ℕ} (i - n) 0) (omega arith))

    pub one_more : i < length l → set (cleared i) i 0 ≡ cleared (i + 1)
    one_more b =
        let front : List ℕ = take n l ++ replicate (i - n) 0 in
        let e : i + 1 - n ≡ i - n + 1 = omega arith in
        ap (λ (r : List ℕ). set (front ++ r) i 0) (drop-cons l i 0 b)
        ∙ set_at front (get_or l i 0) (drop (suc i) l) 0 i (length_front (omega arith))
        ∙ sym (append_snoc front 0 (drop (suc i) l))
        ∙ ap (λ (r : List ℕ). r ++ drop (suc i) l)
        (append_assoc (take n l) (replicate (i - n) 0) (0 ∷ [])
        ∙ ap (λ (r : List ℕ). take n l ++ r) (replicate-append-replicate (i - n) 1 0 ∙ ap (λ (k : ℕ). replicate k 0) (sym e)))
        ∙ ap (λ (k : ℕ). (take n l ++ replicate (i + 1 - n) 0) ++ drop k l) (sym (add-one i))

  pub none_yet : n ≤ length l → l ≡ cleared n
  none_yet h =
      let e : n - n ≡ 0 = omega arith in
      sym
      (ap (λ (k : ℕ). (take n l ++ replicate k 0) ++ drop n l) e
      ∙ ap (λ (r : List ℕ). r ++ drop n l) (append-nil (take n l))
      ∙ take-append-drop n l)

  pub all_cleared : (i : ℕ) → length l ≤ i → i ≤ length l → n ≤ i → cleared i ≡ zero_filled (length l) (take n l)
  unfolding zero_filled
  all_cleared i a b c =
      let e : i - n ≡ length l - length (take n l) = simp length-take (omega arith) in
      ap (λ (r : List ℕ). (take n l ++ replicate (i - n) 0) ++ r) (drop_of_length-le l a)
      ∙ append-nil (take n l ++ replicate (i - n) 0)
      ∙ ap (λ (k : ℕ). take n l ++ replicate k 0) e

  pub length_cleared : (i : ℕ) (m : List ℕ) → m ≡ cleared i → n ≤ i → i ≤ length l → length m ≡ length l
  length_cleared i m e a b =
      ap length e ∙ length-append (take n l ++ replicate (i - n) 0) (drop i l) ∙ omega (arith, length_front i a b, length-drop i l)
