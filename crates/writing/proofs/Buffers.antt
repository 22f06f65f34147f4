-- Writing at a moving place, by recursion on what was written.
use mathlib.Core.Path.{◌≡◌, ap, ◌∙◌}
use mathlib.Core.List.{List, [], ◌∷◌, ◌++◌}
use Prim.Native.Nat.{ℕ, suc, ◌+◌}
use native.Mathlib.Numerals.{add-one}
use native.Mathlib.Omega.{arith}
use lib.ListN.{length, set}
use lib.Seq.{sets}

sets_append : (l : List ℕ) (i : ℕ) (xs ys : List ℕ) → sets l i (xs ++ ys) ≡ sets (sets l i xs) (i + length xs) ys
sets_append l i [] ys = ap (λ (n : ℕ). sets l n ys) (omega arith)
sets_append l i (x ∷ xs) ys =
    sets_append (set l i x) (suc i) xs ys ∙ ap (λ (n : ℕ). sets (sets (set l i x) (suc i) xs) n ys) (omega arith)

-- a number, then one list behind it, then another, is all three written from the first place on
pub written_behind : (l : List ℕ) (at x : ℕ) (xs ys : List ℕ)
    → sets (sets (set l at x) (at + 1) xs) (at + 1 + length xs) ys ≡ sets l at (x ∷ (xs ++ ys))
written_behind l at x xs ys = rw (← sets_append (set l at x) (at + 1) xs ys, add-one at)
