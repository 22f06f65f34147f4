-- What is known of a row that was read: symbol 0 has one number; any other row's numbers and size come from its children's.
use mathlib.Core.Path.{◌≡◌, ap, sym}
use Prim.Native.Nat.{ℕ, ◌+◌, ◌<◌, min}
use mathlib.Core.List.{List, ◌∷◌, ◌++◌}
use lib.ListN.{length, get_or}
use Rattle.model.specs.Rows.{Row, row_at, row_count}
use Rattle.writing.specs.Rows.{NoneWrong, numbers_at, size_within, numbers_leaf, inner_row, numbers_inner, size_inner}

pub size_leaf : (rows : List ℕ) (k : ℕ) (row : Row) → row ≡ row_at rows k → row.symbol ≡ 0 → 1 ≡ length (numbers_at rows k)
size_leaf rows k row read e = sym (ap length (numbers_leaf rows k row read e))

pub record Children (rows : List ℕ) (k : ℕ) (row : Row) : Type 0 where
  pub left : row.left < k
  pub right : row.right < k
  pub numbers : numbers_at rows k ≡ row.symbol ∷ (numbers_at rows row.left ++ numbers_at rows row.right)
  pub size : length (numbers_at rows k) ≡ 1 + length (numbers_at rows row.left) + length (numbers_at rows row.right)

-- the table of sizes has those of the children
pub record Sized (most : ℕ) (rows sizes : List ℕ) (row : Row) : Type 0 where
  pub left : get_or sizes row.left 0 ≡ min most (length (numbers_at rows row.left))
  pub right : get_or sizes row.right 0 ≡ min most (length (numbers_at rows row.right))

module _ (rows : List ℕ) (k : ℕ) (row : Row) (read : row ≡ row_at rows k) (fine : NoneWrong rows) (here : k < row_count rows) (other : row.symbol ≡ 0 → ⊥) where
  pub children : Children rows k row
  children =
      let i = inner_row rows k row read fine here other in
      record {
        left = i.left;
        right = i.right;
        numbers = numbers_inner rows k row read fine here other;
        size = size_inner rows k row read fine here other;
      }

  pub sized : (most : ℕ) (sizes : List ℕ) → ((j : ℕ) → j < k → get_or sizes j 0 ≡ size_within most rows j) → Sized most rows sizes row
  sized most sizes known = record { left = known row.left children.left; right = known row.right children.right }
