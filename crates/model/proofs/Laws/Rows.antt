-- The tree of a row, over the trees of its two rows; more rows at the end change no tree.
use mathlib.Core.Path.{◌≡◌, refl, ap, sym, ◌∙◌}
use mathlib.Core.List.{List, ◌++◌}
use Prim.Native.Nat.{ℕ, zero, suc, ◌+◌, ◌*◌, ◌<◌, ◌≤◌}
use native.Mathlib.Nat.{not-suc-le-zero}
use native.Mathlib.Omega.{arith}
use native.Mathlib.Decide.{ℕ_discrete}
use borrow.Author.Tests.{eq-eqb, ne_eqb}
use lib.ListN.{length, get_or-append}
use Rattle.model.specs.Trees.{Tree, empty, node}
use Rattle.model.specs.Rows.{Row, row_at, tree_of_row, tree_below, tree_at}

module _ (rows : List ℕ) where
  below_self : (n : ℕ) → tree_below rows (suc n) n ≡ tree_of_row (tree_below rows n) (row_at rows n)
  unfolding tree_below
  below_self n = rw (eq-eqb n n refl, tree_below)

  below_other : (n k : ℕ) → (k ≡ n → ⊥) → tree_below rows (suc n) k ≡ tree_below rows n k
  unfolding tree_below
  below_other n k h = rw (ne_eqb k n h, tree_below)

  -- the bound does not matter
  below_tree : (n k : ℕ) → k < n → tree_below rows n k ≡ tree_at rows k
  unfolding tree_at
  below_tree zero k h = absurd (not-suc-le-zero h)
  below_tree (suc n) k h = go (λ (l : k < n). below_tree n k l) (ℕ_discrete k n)
    where
      go : (k < n → tree_below rows n k ≡ tree_below rows (suc k) k) → Dec (k ≡ n) → tree_below rows (suc n) k ≡ tree_below rows (suc k) k
      go f (yes e) = ap (λ (j : ℕ). tree_below rows (suc j) k) (sym e)
      go f (no ne) = below_other n k ne ∙ f (omega arith)

  -- a row of symbol 0 stands for the empty forest
  pub tree_empty : (k : ℕ) → (row_at rows k).symbol ≡ 0 → tree_at rows k ≡ empty
  unfolding tree_at
  tree_empty k e = below_self k ∙ rw e

  -- any other for its symbol over the trees of its two smaller rows
  pub tree_node : (k : ℕ) → 1 ≤ (row_at rows k).symbol → (row_at rows k).left < k → (row_at rows k).right < k
      → tree_at rows k ≡ node (row_at rows k).symbol (tree_at rows (row_at rows k).left) (tree_at rows (row_at rows k).right)
  unfolding tree_at
  tree_node k s l r =
      below_self k
      ∙ rw (ne_eqb (row_at rows k).symbol 0 (λ e. omega arith))
      (rw (below_tree k (row_at rows k).left l, below_tree k (row_at rows k).right r))

-- row k of a list that goes on
row_append : (rows more : List ℕ) (k : ℕ) → 3 * k + 2 < length rows → row_at (rows ++ more) k ≡ row_at rows k
row_append rows more k h =
    rw (
      get_or-append rows more 0 (3 * k) (omega arith),
      get_or-append rows more 0 (3 * k + 1) (omega arith),
      get_or-append rows more 0 (3 * k + 2) (omega arith),
    )

-- equal trees of smaller rows make equal trees
row_smaller : (f g : ℕ → Tree) (row : Row) → ((m : ℕ) → f m ≡ g m) → tree_of_row f row ≡ tree_of_row g row
row_smaller f g row h = rw (h row.left, h row.right)

-- two tables that agree on the rows below n have the same trees there
below_same : (rows rows' : List ℕ) (n : ℕ) → ((k : ℕ) → k < n → row_at rows k ≡ row_at rows' k) → (k : ℕ) → tree_below rows n k ≡ tree_below rows' n k
unfolding tree_below
below_same rows rows' zero h k = refl
below_same rows rows' (suc n) h k = go (λ m. below_same rows rows' n (λ i l. h i (omega arith)) m) (ℕ_discrete k n)
  where
    go : ((m : ℕ) → tree_below rows n m ≡ tree_below rows' n m) → Dec (k ≡ n) → tree_below rows (suc n) k ≡ tree_below rows' (suc n) k
    go f (yes e) =
        rw e
        (below_self rows n
        ∙ ap (λ (r : Row). tree_of_row (tree_below rows n) r) (h n (omega arith))
        ∙ row_smaller (tree_below rows n) (tree_below rows' n) (row_at rows' n) f
        ∙ sym (below_self rows' n))
    go f (no ne) = below_other rows n k ne ∙ f k ∙ sym (below_other rows' n k ne)

pub tree_same : (rows rows' : List ℕ) (k : ℕ) → ((j : ℕ) → j ≤ k → row_at rows j ≡ row_at rows' j) → tree_at rows k ≡ tree_at rows' k
unfolding tree_at
tree_same rows rows' k h = below_same rows rows' (suc k) (λ j l. h j (omega arith)) k

pub tree_append : (rows more : List ℕ) (k : ℕ) → 3 * k + 2 < length rows → tree_at (rows ++ more) k ≡ tree_at rows k
tree_append rows more k h = tree_same (rows ++ more) rows k (λ j l. row_append rows more j (omega arith))
