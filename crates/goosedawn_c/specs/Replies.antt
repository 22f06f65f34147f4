-- The reply of an answer: which answer it is, then its values in document 01's order and behind them the numbers taken (W-205) or the
-- height of a stop (W-214), and 0 where it has fewer than three.
use Rattle.std.specs.Prelude.{◌≡◌, List, ℕ}
use Rattle.model.specs.Answers.{Answer, refusal, stopped, admitted, judged, pass, tree, ran, written}
use Rattle.model.specs.Checking.{Checked}
use Rattle.model.specs.Judging.{Judged}
use Rattle.model.specs.Running.{Ran}
use Rattle.model.specs.WritingOut.{Written}
use Rattle.goosedawn_c.specs.declared.Reply.{Reply}

abbrev pub reply : (answer first second third : ℕ) → Reply
reply answer first second third = record { answer = answer; first = first; second = second; third = third }

abbrev pub reply_of : Answer → Reply
reply_of (refusal number place) = reply 0 number place 0
-- "10 carries h beside the limit"
reply_of (stopped limit height) = reply 0 10 limit height
reply_of admitted = reply 1 0 0 0
reply_of (judged result taken) = reply 2 result taken 0
reply_of (pass count) = reply 3 count 0 0
reply_of (tree row) = reply 4 row 0 0
reply_of (ran root used taken) = reply 5 root used taken
reply_of (written count) = reply 6 count 0 0

-- a reply and what a buffer then holds are those of document 01's result
abbrev pub Judges : Reply → (words : List ℕ) → Judged → Type 0
Judges r words result = (r ≡ reply_of result.answer) × (words ≡ result.words)

abbrev pub Runs : Reply → (rows : List ℕ) → Ran → Type 0
Runs r rows result = (r ≡ reply_of result.answer) × (rows ≡ result.rows)

abbrev pub Writes : Reply → (numbers : List ℕ) → Written → Type 0
Writes r numbers result = (r ≡ reply_of result.answer) × (numbers ≡ result.numbers)

abbrev pub Checks : Reply → (rows words : List ℕ) → Checked → Type 0
Checks r rows words result = (r ≡ reply_of result.answer) × (rows ≡ result.rows) × (words ≡ result.words)
