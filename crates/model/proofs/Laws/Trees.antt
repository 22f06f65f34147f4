-- Trees up to a height: the test of all of them.
use mathlib.Core.Bool.{Bool}
use mathlib.Core.Logic.{◌↔◌}
use Prim.Native.Nat.{ℕ, zero, suc, ◌-◌, ◌≤◌}
use native.Mathlib.Nat.{not-suc-le-zero}
use native.Mathlib.Omega.{arith}
use lib.Dec.{T}
use Rattle.foundation.specs.Tests.{and_left, and_right, and_both, every_intro, every_elim}
use Rattle.model.specs.Trees.{Tree, empty, node, height, Over, every_tree}

module _ (S : ℕ) where
  -- every tree of height h or less
  abbrev Low : ℕ → (Tree → Type 0) → Type 0
  Low h P = (t : Tree) → Over S t → height t ≤ h → P t

  every_low : (h : ℕ) (p : Tree → Bool) → T (every_tree S h p) → Low h (λ t. T (p t))
  unfolding every_tree
  every_low zero p a empty over low = a
  every_low zero p a (node s l r) over low = absurd (not-suc-le-zero low)
  every_low (suc h) p a empty over low = and_left _ _ a
  every_low (suc h) p a (node zero l r) over low = absurd (omega (arith, over.0))
  every_low (suc h) p a (node (suc c) l r) over low =
      every_low h (λ y. p (node (suc c) l y))
      (every_low h (λ x. every_tree S h (λ y. p (node (suc c) x y))) (every_elim (S - 1) _ (and_right _ _ a) c (omega (arith, over.1))) l over.2 (omega arith))
      r over.3 (omega arith)

  low_every : (h : ℕ) (p : Tree → Bool) → Low h (λ t. T (p t)) → T (every_tree S h p)
  unfolding every_tree
  low_every zero p a = a empty tt (omega arith)
  low_every (suc h) p a =
      and_both _ _ (a empty tt (omega arith))
      (every_intro (S - 1) _
      (λ c below. low_every h (λ l. every_tree S h (λ r. p (node (suc c) l r)))
      (λ l left_over left-low. low_every h (λ r. p (node (suc c) l r))
      (λ r right-over right-low. a (node (suc c) l r) (omega arith, omega arith, left_over, right-over) (omega arith)))))

  pub every-tree : (h : ℕ) (p : Tree → Bool) → T (every_tree S h p) ↔ ((t : Tree) → Over S t → height t ≤ h → T (p t))
  every-tree h p = (every_low h p, low_every h p)
