-- What evaluating a node and its operands, applying it and calling a procedure require and promise.
use Rattle.std.specs.Prelude.{◌≡◌, false, List, ℕ, ◌+◌, ◌*◌, ◌<◌, ◌≤◌, eqb, ltb, length, get_or, Result}
use Rattle.foundation.specs.Tests.{choose}
use Rattle.model.specs.Rows.{row_count}
use Rattle.model.specs.Tables.{Transformation, Node, node_at, node_count, rule_at, rule_count}
use Rattle.model.specs.Expressions.{Child, moves, child_of, expression}
use Rattle.model.specs.Answers.{Verdict, Answer, refusal, refuse_if, ◌then◌, given}
use Rattle.model.specs.Documents.{document_tree, numbers_taken, leading_tree, leading_verdict}
use Rattle.model.specs.Running.{Work, Step, made, most_calls, Runs, on_child, Ran, rows_wrong, add_row, evaluate, run_on, run, closing}
use Rattle.answers.specs.declared.Ran as code
use Rattle.answers.specs.declared.RunningRefusal.{RunningRefusal}
use Rattle.answers.specs.Numbers.{running_answer}
use Rattle.model.proofs.Laws.Documents.{tree_from}
use Rattle.model.proofs.Laws.Established.{Between, GoodNode, GoodRule}
use Rattle.model.proofs.Laws.Calls.{EachCall}
use Rattle.running.specs.declared.Tally.{Tally}
use Rattle.running.specs.declared.Ended.{Ended}
use Rattle.plans.specs.Plans.{most_procedures, most_nodes, Laid}
use Rattle.running.specs.Places.{Children}
use Rattle.running.specs.Work.{Outcome, work_of, step_of, ended_of, operand_count, operand_node}

-- the tables of an admitted transformation
pub record Admitted (T : Transformation) : Type 0 where
  pub symbols : Between 1 16 T.symbols
  pub procedures : Between 1 most_procedures (length T.counts)
  pub nodes_long : length T.nodes ≤ 5 * most_nodes
  pub nodes_few : node_count T.nodes ≤ most_nodes
  pub node : (k : ℕ) → k < node_count T.nodes → GoodNode T.symbols T.counts k (node_at T.nodes k)
  pub rule : (r : ℕ) → r < rule_count T.rules → GoodRule T.symbols T.counts T.nodes (rule_at T.rules r)

-- a plan is that of an admitted transformation and of a document
pub record Plan (plan : List ℕ) : Type 0 where
  pub transformation : Transformation
  pub numbers : List ℕ
  pub ends : List ℕ
  pub tables : Admitted transformation
  pub text : Children numbers ends
  pub laid : Laid transformation numbers ends plan

-- a call that goes to no child
abbrev pub Staying : Child → (procedure : ℕ) → Type 0
Staying c p = moves c ≡ false

-- a node that may be evaluated at a place: under symbol 0 all of its calls stay there
pub record Evaluable (T : Transformation) (numbers : List ℕ) (place k : ℕ) : Type 0 where
  pub inside : place < length numbers
  pub there : k < node_count T.nodes
  pub quiet : get_or numbers place 0 ≡ 0 → EachCall Staying (expression T.counts T.nodes k)

-- two numbers are the rows of the parameters, 0 where there are fewer
pub record Carries (ws : List ℕ) (first second : ℕ) : Type 0 where
  pub one : get_or ws 0 0 ≡ first
  pub two : get_or ws 1 0 ≡ second

-- the evaluation of operand 1 or 2 of a node, by that of its nodes: where it has fewer, row 0 stands for it at once
unfoldable pub operated : (counts : List ℕ) → Node → (number : ℕ) → (ℕ → Work → Step ℕ) → Work → Step ℕ
operated counts n number value w = choose (ltb (operand_count counts n) number) (made 0 w) (value (operand_node number n) w)

-- what follows the evaluation of a node's operands: an output symbol adds a row over them, a call calls its procedure with
-- them as parameters
unfoldable pub applied : ℕ → (Child → Runs) → Node → (first second : ℕ) → List ℕ → Work → Step ℕ
applied free runs n a b ws w = choose (eqb n.tag 1) (add_row free n.name a b w) (runs (child_of n.child) n.name ws w)

-- the promises: each says what step of document 01 the answer and the closing buffer are, for any list of parameters that the two rows
-- stand for and any number of calls left that is no smaller than what the tally leaves
module _ (T : Transformation) (numbers : List ℕ) (place : ℕ) where
  -- running procedures where a call from the place goes
  abbrev pub runs_from : (free calls : ℕ) → Child → Runs
  runs_from free calls = on_child (run_on T free calls) (tree_from numbers place)

  -- evaluating a node there
  abbrev pub value_from : (free calls : ℕ) (ws : List ℕ) → ℕ → Work → Step ℕ
  value_from free calls ws k = evaluate T free (runs_from free calls) (expression T.counts T.nodes k) ws

  abbrev pub Evaluates : (k first second : ℕ) (buffer : List ℕ) → Tally → Outcome → List ℕ → Type 0
  Evaluates k first second buffer tally outcome closing =
      (free calls : ℕ) (ws : List ℕ) → free ≡ row_count buffer → most_calls T ≤ calls + tally.calls → Carries ws first second
      → value_from free calls ws k (work_of tally buffer) ≡ step_of free outcome closing

  abbrev pub Operates : (k number first second : ℕ) (buffer : List ℕ) → Tally → Outcome → List ℕ → Type 0
  Operates k number first second buffer tally outcome closing =
      (free calls : ℕ) (ws : List ℕ) → free ≡ row_count buffer → most_calls T ≤ calls + tally.calls → Carries ws first second
      → operated T.counts (node_at T.nodes k) number (value_from free calls ws) (work_of tally buffer) ≡ step_of free outcome closing

  abbrev pub Applies : (k first second : ℕ) (buffer : List ℕ) → Tally → Outcome → List ℕ → Type 0
  Applies k first second buffer tally outcome closing =
      (free calls : ℕ) (ws : List ℕ) → free ≡ row_count buffer → most_calls T ≤ calls + tally.calls → Carries ws first second
      → applied free (runs_from free calls) (node_at T.nodes k) first second ws (work_of tally buffer) ≡ step_of free outcome closing

  abbrev pub Calls : (procedure first second : ℕ) (buffer : List ℕ) → Tally → Outcome → List ℕ → Type 0
  Calls p first second buffer tally outcome closing =
      (free calls : ℕ) (ws : List ℕ) → free ≡ row_count buffer → most_calls T ≤ calls + tally.calls → Carries ws first second
      → run_on T free calls (tree_from numbers place) p ws (work_of tally buffer) ≡ step_of free outcome closing

-- the same of a plan: what is asked, and what is promised of any tables that the plan is one of
pub record EvaluableIn (plan : List ℕ) (place k : ℕ) : Type 0 where
  pub known : Plan plan
  pub able : Evaluable known.transformation known.numbers place k

-- a node that is no parameter
pub record OperableIn (plan : List ℕ) (place k : ℕ) : Type 0 where
  pub known : Plan plan
  pub able : Evaluable known.transformation known.numbers place k
  pub inner : (node_at known.transformation.nodes k).tag ≡ 0 → ⊥

pub record CallableIn (plan : List ℕ) (place p : ℕ) : Type 0 where
  pub known : Plan plan
  pub inside : place < length known.numbers
  pub named : p < length known.transformation.counts

module _ (plan : List ℕ) (place : ℕ) where
  abbrev pub EvaluatesIn : (k first second : ℕ) (buffer : List ℕ) → Tally → Outcome → List ℕ → Type 0
  EvaluatesIn k first second buffer tally outcome closing =
      (asked : EvaluableIn plan place k) → Evaluates asked.known.transformation asked.known.numbers place k first second buffer tally outcome closing

  abbrev pub OperatesIn : (k number first second : ℕ) (buffer : List ℕ) → Tally → Outcome → List ℕ → Type 0
  OperatesIn k number first second buffer tally outcome closing =
      (asked : OperableIn plan place k)
      → Operates asked.known.transformation asked.known.numbers place k number first second buffer tally outcome closing

  abbrev pub AppliesIn : (k first second : ℕ) (buffer : List ℕ) → Tally → Outcome → List ℕ → Type 0
  AppliesIn k first second buffer tally outcome closing =
      (asked : OperableIn plan place k) → Applies asked.known.transformation asked.known.numbers place k first second buffer tally outcome closing

  abbrev pub CallsIn : (procedure first second : ℕ) (buffer : List ℕ) → Tally → Outcome → List ℕ → Type 0
  CallsIn p first second buffer tally outcome closing =
      (asked : CallableIn plan place p) → Calls asked.known.transformation asked.known.numbers place p first second buffer tally outcome closing

-- the promise of the whole work from a tally on: some outcome is that of calling procedure 0 on the whole document, and the
-- end and the tally are that outcome's
pub record StartsIn (plan buffer : List ℕ) (before : Tally) (r : Ended) (closing : List ℕ) : Type 0 where
  pub outcome : Outcome
  pub calls : CallsIn plan 0 0 0 0 buffer before outcome closing
  pub ends : r ≡ ended_of before outcome

-- an answer and a closing buffer are those of a run
pub record EndsWith (ran : Ran) (answer : Answer) (buffer : List ℕ) : Type 0 where
  pub answered : answer ≡ ran.answer
  pub left : buffer ≡ ran.rows

-- the promise of the whole work on a document, which is all of the numbers
abbrev pub Closes : Transformation → (numbers buffer : List ℕ) → Result code.Ran RunningRefusal → List ℕ → Type 0
Closes T numbers buffer r closed =
    EndsWith (closing (length buffer) (length numbers) (run T (row_count buffer) (document_tree numbers))) (running_answer r) closed

-- what is said before the work: "9, the row buffer's length is no multiple of three or above 12,288 (place 0); 11; 12"
abbrev pub before_work : ℕ → List ℕ → (lent : ℕ) → Verdict
before_work S numbers lent = refuse_if (rows_wrong lent) 9 0 then leading_verdict S numbers

-- what follows where a contract is admitted; "these write nothing"
unfoldable pub after_admission : Transformation → (numbers buffer : List ℕ) → Ran
after_admission T numbers buffer =
    given (before_work T.symbols numbers (length buffer)) (λ number place. record { answer = refusal number place; rows = buffer })
    (closing (length buffer) (numbers_taken T.symbols numbers) (run T (row_count buffer) (leading_tree T.symbols numbers)))
