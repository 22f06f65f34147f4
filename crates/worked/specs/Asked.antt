-- The questions of the definitions that the program's questions are, and which of them have room in the buffers that are lent.
use Rattle.std.specs.Prelude.{◌≤◌}
use Rattle.worked_table.specs.Questions as questions
use Rattle.worked.specs.declared.questions.Question.{Question}
use Rattle.worked.specs.declared.questions.Question.TheVariants as question

abbrev pub question_of : Question → questions.Question
question_of (question.Check limit) = questions.check limit
question_of (question.Judge numbers) = questions.judge numbers.now
question_of (question.Run room numbers) = questions.run room numbers.now

-- there are 512 rows and 512 kinds at most
abbrev pub HasRoom : Question → Type 0
HasRoom (question.Check limit) = limit ≤ 512
HasRoom (question.Judge numbers) = Unit {0}
HasRoom (question.Run room numbers) = room ≤ 512
