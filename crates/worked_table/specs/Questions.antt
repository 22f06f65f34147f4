-- Questions to a contract, and the replies that document 01's definitions give.
use Rattle.std.specs.Prelude.{List, [], ◌∷◌, ℕ, ◌*◌, replicate}
use Rattle.model.specs.Tables.{Contract}
use Rattle.model.specs.Answers.{Answer}
use Rattle.model.specs.Admission
use Rattle.model.specs.Judging
use Rattle.model.specs.Checking
use Rattle.model.specs.Running
use Rattle.model.specs.WritingOut

pub data Question : Type 0 where
  admit : Question
  judge : (numbers : List ℕ) → Question
  check : (limit : ℕ) → Question
  -- a row buffer of that many rows
  run : (rows : ℕ) (numbers : List ℕ) → Question
  -- rows, a row number, and a buffer of that many numbers
  write_out : (rows : List ℕ) (row room : ℕ) → Question

-- an answer and the closing buffers: the row buffer before the word buffer
pub record Reply : Type 0 where
  pub answer : Answer
  pub buffers : List (List ℕ)

-- before an operation a buffer holds 7 in every place, so that "nothing written" is seen
abbrev pub lent : ℕ → List ℕ
lent n = replicate n 7

unfoldable pub ask : Contract → Question → Reply
ask C admit = record { answer = Admission.admit C; buffers = [] }
ask C (judge numbers) = let j : Judging.Judged = Judging.judging C numbers (lent 5) in record { answer = j.answer; buffers = j.words ∷ [] }
ask C (check L) =
    let c : Checking.Checked = Checking.checking C L (lent (3 * L)) (lent (5 * L)) in
    record { answer = c.answer; buffers = c.rows ∷ c.words ∷ [] }
ask C (run n numbers) = let r : Running.Ran = Running.running C numbers (lent (3 * n)) in record { answer = r.answer; buffers = r.rows ∷ [] }
ask C (write_out rows row room) =
    let w : WritingOut.Written = WritingOut.writing_out rows row (lent room) in
    record { answer = w.answer; buffers = w.numbers ∷ [] }
