-- Questions: the questions of a script about its contract, with what is lent to them and what they leave. A limit or a room
-- that is refused whatever is lent gets a shorter buffer, and what it would have left is known to be sevens.
use Rattle.std.specs.Prelude.{Bool, false, ◌||◌, ◌≡◌, List, ◌++◌, ℕ, ◌*◌, ◌≤◌, ltb, length, drop}
use Rattle.foundation.specs.Tests.{choose}
use Rattle.model.specs.Tables.{Contract}
use Rattle.model.specs.Answers.{Answer}
use Rattle.model.specs.Admission.{admit}
use Rattle.model.specs.Judging.{judging}
use Rattle.model.specs.Checking.{checking}
use Rattle.model.specs.Running.{running}
use Rattle.script.specs.Meaning.{State, Step, writes_rows, admit_step, judge_step, check_step, run_step}
use Rattle.playing.specs.declared.desks.Left.{Left}
use Rattle.playing.specs.declared.desks.Left.TheVariants as left
use Rattle.playing.specs.declared.desks.Desk.{Desk}
use Rattle.playing.specs.declared.questions.Question.{Question}
use Rattle.playing.specs.declared.questions.Question.TheVariants as question
use Rattle.playing.specs.declared.questions.Lent.{Lent}
use Rattle.playing.specs.Desks.{span, desk_with_left}

-- what comes of a question: the answer and the closing buffers
pub record Asked : Type 0 where
  pub answer : Answer
  pub rows : List ℕ
  pub words : List ℕ

-- a question about a contract, with a document and buffers; a question does not write the buffers that it does not name
unfoldable pub asked : Contract → Question → (numbers rows words : List ℕ) → Asked
asked C question.Admit numbers rows words = record { answer = admit C; rows = rows; words = words }
asked C question.Judge numbers rows words =
    record { answer = (judging C numbers words).answer; rows = rows; words = (judging C numbers words).words }
asked C (question.Check limit) numbers rows words =
    record { answer = (checking C limit rows words).answer; rows = (checking C limit rows words).rows; words = (checking C limit rows words).words }
asked C (question.Run room) numbers rows words =
    record { answer = (running C numbers rows).answer; rows = (running C numbers rows).rows; words = words }

-- the step of a script that asks a question
abbrev pub question_step : State → Question → List ℕ → Step
question_step state question.Admit values = admit_step state
question_step state question.Judge values = judge_step state values
question_step state (question.Check limit) values = check_step state limit
question_step state (question.Run room) values = run_step state room values

-- the limit is out of range, or the room is above the most
abbrev pub limit_out : ℕ → Bool
limit_out limit = ltb limit 1 || ltb 512 limit

abbrev pub room_out : ℕ → Bool
room_out room = ltb 4096 room

abbrev pub lending : ℕ → ℕ → Lent
lending rows words = record { rows = rows; words = words }

abbrev pub lent_to : Question → Lent
lent_to question.Admit = lending 0 0
lent_to question.Judge = lending 0 5
lent_to (question.Check limit) = choose (limit_out limit) (lending 0 0) (lending (3 * limit) (5 * limit))
lent_to (question.Run room) = choose (room_out room) (lending 1 0) (lending (3 * room) 0)

abbrev pub left_after : Question → Left → Left
left_after question.Admit older = older
left_after question.Judge older = left.Words 5
left_after (question.Check limit) older = choose (limit_out limit) (left.Sevens (3 * limit) (5 * limit)) (left.Both (3 * limit) (5 * limit))
left_after (question.Run room) older = choose (room_out room) (left.SevenRows (3 * room)) (left.Rows (3 * room))

-- numbers of a script are at most 65535
abbrev pub Small : Question → Type 0
Small question.Admit = Unit {0}
Small question.Judge = Unit {0}
Small (question.Check limit) = limit ≤ 65535
Small (question.Run room) = room ≤ 65535

-- whether what a question wrote becomes the current row table
abbrev pub sets_rows : Question → Answer → Bool
sets_rows question.Admit answer = false
sets_rows question.Judge answer = false
sets_rows (question.Check limit) answer = writes_rows answer
sets_rows (question.Run room) answer = writes_rows answer

-- the desk behind a question
abbrev pub desk_after : Desk → Question → Answer → Desk
desk_after d q answer =
    desk_with_left d (choose (sets_rows q answer) (span 0 (lent_to q).rows) d.rows) (left_after q d.left)

-- an answer and closing buffers are what comes of a question
abbrev pub Comes : Asked → Answer → (rows words : List ℕ) → Type 0
Comes a answer rows words = (answer ≡ a.answer) × (rows ≡ a.rows) × (words ≡ a.words)

-- the same where the beginnings of two buffers are lent
pub record Lends (a : Asked) (lent : Lent) (answer : Answer) (rows words rows₁ words₁ : List ℕ) : Type 0 where
  pub answers : answer ≡ a.answer
  pub rows_closed : rows₁ ≡ a.rows ++ drop lent.rows rows
  pub words_closed : words₁ ≡ a.words ++ drop lent.words words
  pub rows_long : length a.rows ≡ lent.rows
  pub words_long : length a.words ≡ lent.words
