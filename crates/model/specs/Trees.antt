-- Trees: forests in binary form, their height, a test of all trees up to a height, and their numbers in preorder.
use Rattle.std.specs.Prelude.{Bool, List, [], ◌∷◌, ◌++◌, ℕ, zero, suc, ◌-◌, ◌≤◌, ◌<◌, max}
use Rattle.foundation.specs.Tests.{◌and◌, every_below}

-- "symbol 0 is the empty forest and is a leaf; every other symbol has two children, left the first child's forest,
-- right the following siblings"
pub data Tree : Type 0 where
  empty : Tree
  node : ℕ → Tree → Tree → Tree

-- "The empty forest has height 0, any other tree 1 plus the greater height of its children."
abbrev pub height : Tree → ℕ
height empty = 0
height (node s l r) = suc (max (height l) (height r))

abbrev pub root_symbol : Tree → ℕ
root_symbol empty = 0
root_symbol (node s l r) = s

-- "trees .. whose root is not symbol 0 and whose right child is symbol 0" (change request W-202): those of one root, as a document of
-- XML has it. Symbol 0 is `empty`; a `node` of a tree over symbols has another (`Over`).
abbrev pub IsEmpty : Tree → Type 0
IsEmpty empty = Unit {0}
IsEmpty (node s l r) = ⊥

abbrev pub OneRoot : Tree → Type 0
OneRoot empty = ⊥
OneRoot (node s l r) = IsEmpty r

-- a tree over the symbols below S
abbrev pub Over : ℕ → Tree → Type 0
Over S empty = Unit {0}
Over S (node s l r) = (1 ≤ s) × (s < S) × Over S l × Over S r

-- every tree over the symbols below S, of height h or less, passes the test p
unfoldable pub every_tree : (S h : ℕ) → (Tree → Bool) → Bool
every_tree S zero p = p empty
every_tree S (suc h) p = p empty and every_below (S - 1) (λ c. every_tree S h (λ l. every_tree S h (λ r. p (node (suc c) l r))))

-- "its symbols in preorder"
unfoldable pub preorder : Tree → List ℕ
preorder empty = 0 ∷ []
preorder (node s l r) = s ∷ (preorder l ++ preorder r)
