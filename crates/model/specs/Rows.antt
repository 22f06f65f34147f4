-- Rows: a table of rows (symbol, left, right), three numbers each, and the tree that a row stands for.
use Rattle.std.specs.Prelude.{true, false, List, ℕ, zero, suc, ◌+◌, ◌*◌, ◌/◌, eqb, length, get_or}
use Rattle.foundation.specs.Tests.{choose}
use Rattle.model.specs.Trees.{Tree, empty, node}

pub record Row : Type 0 where
  pub symbol : ℕ
  pub left : ℕ
  pub right : ℕ

-- row k of the numbers, three each
abbrev pub row_at : List ℕ → ℕ → Row
row_at rows k = record { symbol = get_or rows (3 * k) 0; left = get_or rows (3 * k + 1) 0; right = get_or rows (3 * k + 2) 0 }

abbrev pub row_count : List ℕ → ℕ
row_count rows = length rows / 3

-- a row over the trees of smaller rows: symbol 0 stands alone
abbrev pub tree_of_row : (ℕ → Tree) → Row → Tree
tree_of_row smaller row = choose (eqb row.symbol 0) empty (node row.symbol (smaller row.left) (smaller row.right))

-- the trees of the rows below n; elsewhere the empty forest
unfoldable pub tree_below : List ℕ → ℕ → ℕ → Tree
tree_below rows zero k = empty
tree_below rows (suc n) k = elim (eqb k n) [ true ↦ tree_of_row (tree_below rows n) (row_at rows n) | false ↦ tree_below rows n k ]

-- "Row 0 of a check stands for the empty forest, any other for its symbol over the trees of its two rows"
unfoldable pub tree_at : List ℕ → ℕ → Tree
tree_at rows k = tree_below rows (suc k) k
