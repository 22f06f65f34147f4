-- What the code's answers and buffers stand for: work and steps of document 01's running.
use Rattle.std.specs.Prelude.{List, ℕ, ◌+◌, ◌*◌, eqb, get_or, take, Result, Ok, Err}
use Rattle.foundation.specs.Tests.{choose}
use Rattle.model.specs.Tables.{Node, count_of}
use Rattle.model.specs.Answers.{Answer, ran, refusal}
use Rattle.model.specs.Running.{Work, Step, made, refused}
use Rattle.plans.specs.Plans.{ends_place}
use Rattle.running.specs.declared.Tally.{Tally}
use Rattle.running.specs.declared.RunFault.{RunFault}
use Rattle.running.specs.declared.RunFault.TheVariants.{NoRule, NoRow, TooManyCalls}
use Rattle.running.specs.declared.Ended.{Ended}

-- the work so far: the first rows of the buffer are the rows used
abbrev pub work_of : Tally → List ℕ → Work
work_of tally buffer = record { tally = record { used = tally.used; calls = tally.calls }; rows = take (3 * tally.used) buffer }

-- what a step of the code's work gives: a row, and the tally after it
abbrev pub Outcome : Type 0
Outcome = Result (ℕ × Tally) RunFault

-- a step, with the buffer that it left, where so many rows are free at first
abbrev pub step_of : ℕ → Outcome → List ℕ → Step ℕ
step_of free (Ok m) buffer = made m.0 (work_of m.1 buffer)
step_of free (Err (NoRule procedure)) buffer = refused 13 procedure.0
step_of free (Err NoRow) buffer = refused 14 free
step_of free (Err (TooManyCalls most)) buffer = refused 15 most

-- an outcome as an end and a tally: that of the outcome, or where it is refused that with which the work began
abbrev pub ended_of : Tally → Outcome → Ended
ended_of before (Ok m) = record { tally = m.1; end = Ok m.0 }
ended_of before (Err fault) = record { tally = before; end = Err fault }

-- the row of parameter 1 or 2
abbrev pub parameter_row : ℕ → ℕ → ℕ → ℕ
parameter_row name first second = choose (eqb name 1) first second

-- how many operands a node has that is no parameter
unfoldable pub operand_count : List ℕ → Node → ℕ
operand_count counts n = choose (eqb n.tag 1) (choose (eqb n.name 0) 0 2) (count_of counts n.name)

-- the same, read from a plan
abbrev pub plan_operands : List ℕ → Node → ℕ
plan_operands plan n = choose (eqb n.tag 1) (choose (eqb n.name 0) 0 2) (get_or plan n.name 0)

-- the node of operand 1 or 2
abbrev pub operand_node : (number : ℕ) → Node → ℕ
operand_node number n = choose (eqb number 1) n.first n.second

-- the place to which a call goes: child 0 is the node itself, 1 the left one, right behind it, 2 the right one, where the left one ends
abbrev pub plan_child : List ℕ → (place child : ℕ) → ℕ
plan_child plan place child = choose (eqb child 0) place (choose (eqb child 1) (place + 1) (get_or plan (ends_place + (place + 1)) 0))

-- how many numbers of the buffer stand at the end
abbrev pub numbers_kept : Result ℕ RunFault → Tally → ℕ
numbers_kept (Ok root) tally = 3 * tally.used
numbers_kept (Err fault) tally = 0

-- the answer to a fault, where so many rows are free at first
abbrev pub fault_answer : (free : ℕ) → RunFault → Answer
fault_answer free (NoRule procedure) = refusal 13 procedure.0
fault_answer free NoRow = refusal 14 free
fault_answer free (TooManyCalls most) = refusal 15 most

-- the answer, where the document took so many numbers
abbrev pub end_answer : (free taken : ℕ) → Result ℕ RunFault → Tally → Answer
end_answer free taken (Ok root) tally = ran root tally.used taken
end_answer free taken (Err fault) tally = fault_answer free fault
