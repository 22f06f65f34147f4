-- What the tests before a tree is written out establish, where the first bad row was sought and none found.
use mathlib.Core.Path.{◌≡◌}
use mathlib.Core.Bool.{false}
use mathlib.Core.List.{List}
use Prim.Native.Nat.{ℕ, ◌≤◌, ◌<◌}
use native.Mathlib.Omega.{arith}
use lib.ListN.{length}
use Rattle.foundation.specs.Search.{first, first_clear}
use Rattle.model.specs.Rows.{row_count}
use Rattle.model.specs.Running.{rows_wrong}
use Rattle.writing.specs.Rows.{wrong_at, NoneWrong}

-- the rows passed their tests, and the row asked for is there
pub record Ready (rows : List ℕ) (row : ℕ) : Type 0 where
  pub right : rows_wrong (length rows) ≡ false
  pub fine : NoneWrong rows
  pub here : row < row_count rows

pub ready : (rows : List ℕ) (row k : ℕ) → rows_wrong (length rows) ≡ false → k ≡ first (wrong_at rows) (row_count rows) → row_count rows ≤ k → row < row_count rows
    → Ready rows row
ready rows row k right sought none here =
    record { right = right; fine = first_clear (wrong_at rows) (row_count rows) (omega arith); here = here }
