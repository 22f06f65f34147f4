-- Writing out a row's tree: the answer and the closing buffer.
use Rattle.std.specs.Prelude.{Bool, not, ◌&&◌, ◌||◌, List, ◌++◌, ℕ, eqb, ltb, leb, length, drop}
use Rattle.foundation.specs.Tests.{choose}
use Rattle.model.specs.Trees.{preorder}
use Rattle.model.specs.Rows.{Row, row_at, row_count, tree_at}
use Rattle.model.specs.Answers.{Verdict, refuse_if, refuse_first, ◌then◌, Answer, written, refusal, given}
use Rattle.model.specs.Running.{rows_wrong}

pub record Written : Type 0 where
  pub answer : Answer
  pub numbers : List ℕ

-- "a symbol above 15, a symbol 0 with non-zero children, or another symbol with a child not below its own row"
abbrev pub row_wrong : ℕ → Row → Bool
row_wrong k row =
    ltb 15 row.symbol
    || choose (eqb row.symbol 0) (not (eqb row.left 0 && eqb row.right 0)) (leb k row.left || leb k row.right)

-- "16, the length is no multiple of three or above 12,288 (place 0). 17, the first row with .. (that row). 18, the row
-- number is too large (that number). 19, the tree has more numbers than the buffer (place the buffer's length)."
unfoldable pub writing_verdict : (rows : List ℕ) (row : ℕ) (buffer : List ℕ) → Verdict
writing_verdict rows row buffer =
    refuse_if (rows_wrong (length rows)) 16 0
    then refuse_first 17 (λ k. row_wrong k (row_at rows k)) (row_count rows)
    then refuse_if (leb (row_count rows) row) 18 row
    then refuse_if (ltb (length buffer) (length (preorder (tree_at rows row)))) 19 (length buffer)

-- "Refusals write nothing. A tree is written as its symbol, then the trees of its two smaller rows, symbol 0 standing
-- alone; the count returns and what follows in the buffer is kept."
unfoldable pub writing_out : (rows : List ℕ) (row : ℕ) (buffer : List ℕ) → Written
writing_out rows row buffer =
    let numbers : List ℕ = preorder (tree_at rows row) in
    given (writing_verdict rows row buffer) (λ number place. record { answer = refusal number place; numbers = buffer })
    (record { answer = written (length numbers); numbers = numbers ++ drop (length numbers) buffer })
