-- Meaning: what a script prints. Its statements are taken one after another; each changes the state and prints its lines.
use Rattle.std.specs.Prelude.{Bool, true, ◌&&◌, not, List, [], ◌∷◌, ◌++◌, ℕ, zero, suc, ◌+◌, ◌*◌, ◌-◌, leb, ltb, length, get_or, take, set, replicate, Option, Some, None, Result, Ok, Err}
use Rattle.foundation.specs.Tests.{choose}
use Rattle.foundation.specs.Lists.{same_list}
use Rattle.model.specs.Tables.{Contract, contract}
use Rattle.model.specs.Answers.{Answer, admitted, judged, tree, pass, ran, written, refusal, stopped}
use Rattle.model.specs.Admission.{admit}
use Rattle.model.specs.Judging.{Judged, judging}
use Rattle.model.specs.Checking.{Checked, checking}
use Rattle.model.specs.Running.{Ran, running}
use Rattle.model.specs.WritingOut.{Written, writing_out}
use Rattle.lexing.specs.Text.{newlines}
use Rattle.script.specs.Spans.{span_at, bytes_of}
use Rattle.script.specs.Statements.{Read, statement_at}
use Rattle.printing.specs.Decimals.{decimal}
use Rattle.script.specs.Phrases as phrases
use Rattle.script.specs.declared.spans.Span.{Span}
use Rattle.script.specs.declared.spans.Fault.{Fault}
use Rattle.script.specs.declared.spans.Expected.{Expected}
use Rattle.script.specs.declared.spans.Expected.TheVariants as expected
use Rattle.lexing.specs.declared.words.Size.{Size}
use Rattle.lexing.specs.declared.words.Size.TheVariants as size
use Rattle.lexing.specs.declared.words.Table.{Table}
use Rattle.lexing.specs.declared.words.Table.TheVariants as table
use Rattle.script.specs.declared.statements.Listed.TheVariants as listed
use Rattle.script.specs.declared.statements.Reading.{Reading}
use Rattle.script.specs.declared.statements.Misread.{Misread}
use Rattle.script.specs.declared.statements.Statement.{Statement}
use Rattle.script.specs.declared.statements.Statement.TheVariants as statement

-- the most bytes of a script that are read, the most numbers of its tables that are kept, and the most bytes of a token
-- that a fault shows; a number takes a byte and another apart from the next, so half as many numbers as bytes are enough
abbrev pub most_bytes : ℕ
most_bytes = 1572864

abbrev pub most_numbers : ℕ
most_numbers = 786432

abbrev pub most_shown : ℕ
most_shown = 32

-- what the last check, run or judgement left in its buffers
pub data Left : Type 0 where
  nothing : Left
  rows : List ℕ → Left
  words : List ℕ → Left
  both : (rows words : List ℕ) → Left

-- the label, the contract's sizes and tables, the current row table, what was left in the buffers, and how many numbers the
-- statements that set a table have had
pub record State : Type 0 where
  pub label : List ℕ
  pub sizes : List ℕ
  pub tables : List (List ℕ)
  pub rows : List ℕ
  pub left : Left
  pub used : ℕ

-- at first the label is `-`, the sizes are 0 and the tables empty
abbrev pub initial : State
initial = record { label = 45 ∷ []; sizes = replicate 3 0; tables = replicate 7 []; rows = []; left = nothing; used = 0 }

abbrev pub size_place : Size → ℕ
size_place size.Symbols = 0
size_place size.InputStates = 1
size_place size.OutputStates = 2

abbrev pub table_place : Table → ℕ
table_place table.Counts = 0
table_place table.InputRows = 1
table_place table.InputMarks = 2
table_place table.OutputTable = 3
table_place table.OutputMarks = 4
table_place table.Nodes = 5
table_place table.Rules = 6

-- the contract that the sizes and tables make
abbrev pub contract_of : State → Contract
contract_of s =
    contract (get_or s.sizes 0 0) (get_or s.sizes 1 0) (get_or s.sizes 2 0)
    (get_or s.tables 0 []) (get_or s.tables 1 []) (get_or s.tables 2 [])
    (get_or s.tables 3 []) (get_or s.tables 4 []) (get_or s.tables 5 []) (get_or s.tables 6 [])

-- the state with another label, size, table, row table or buffers
abbrev pub with_label : State → List ℕ → State
with_label s label = record { label = label; sizes = s.sizes; tables = s.tables; rows = s.rows; left = s.left; used = s.used }

abbrev pub with_size : State → Size → ℕ → State
with_size s z n =
    record { label = s.label; sizes = set s.sizes (size_place z) n; tables = s.tables; rows = s.rows; left = s.left; used = s.used }

abbrev pub with_table : State → Table → List ℕ → State
with_table s t l =
    record { label = s.label; sizes = s.sizes; tables = set s.tables (table_place t) l; rows = s.rows; left = s.left; used = s.used + length l }

abbrev pub with_rows : State → List ℕ → State
with_rows s l = record { label = s.label; sizes = s.sizes; tables = s.tables; rows = l; left = s.left; used = s.used + length l }

abbrev pub with_left : State → List ℕ → Left → State
with_left s current left = record { label = s.label; sizes = s.sizes; tables = s.tables; rows = current; left = left; used = s.used }

-- numbers, each behind a space
unfoldable pub spaced : List ℕ → List ℕ
spaced [] = []
spaced (n ∷ rest) = 32 ∷ (decimal n ++ spaced rest)

-- a line behind its label: a space, the text and a line feed
abbrev pub line : List ℕ → List ℕ
line text = 32 ∷ (text ++ (10 ∷ []))

abbrev pub labelled : State → List ℕ → List ℕ
labelled state text = state.label ++ line text

-- "X10 judged 1 3" (result, numbers taken), "while run lines keep two numbers"; "10 carries h beside the limit, printed last", so
-- "X5 refused 10 1 0"
abbrev pub answer_text : Answer → List ℕ
answer_text admitted = phrases.admitted
answer_text (judged result taken) = phrases.judged ++ decimal result ++ (32 ∷ decimal taken)
answer_text (pass count) = phrases.passed ++ decimal count
answer_text (tree row) = phrases.shown ++ decimal row
answer_text (ran root used taken) = phrases.ran ++ decimal root ++ (32 ∷ decimal used)
answer_text (written count) = phrases.wrote ++ decimal count
answer_text (refusal number place) = phrases.refused ++ decimal number ++ (32 ∷ decimal place)
answer_text (stopped limit height) = phrases.refused ++ decimal 10 ++ (32 ∷ decimal limit) ++ (32 ∷ decimal height)

-- the numbers written stand behind their count and a colon
abbrev pub written_text : Written → List ℕ
written_text w = elim w.answer [
  | admitted ↦ answer_text w.answer
  | judged result taken ↦ answer_text w.answer
  | tree row ↦ answer_text w.answer
  | pass count ↦ answer_text w.answer
  | ran root used taken ↦ answer_text w.answer
  | written count ↦ answer_text w.answer ++ (58 ∷ spaced (take count w.numbers))
  | refusal number place ↦ answer_text w.answer
  | stopped limit height ↦ answer_text w.answer
]

abbrev pub left_lines : State → Left → List ℕ
left_lines state nothing = []
left_lines state (rows r) = labelled state (phrases.rows ++ spaced r)
left_lines state (words w) = labelled state (phrases.words ++ spaced w)
left_lines state (both r w) = labelled state (phrases.rows ++ spaced r) ++ labelled state (phrases.words ++ spaced w)

-- what a question lends: sevens, so that a refusal that writes nothing can be seen
abbrev pub untouched : ℕ → List ℕ
untouched n = replicate n 7

-- whether a question wrote its row buffer: refusals 10, 13, 14 and 15 write zeros there, and other refusals nothing
abbrev pub writes_rows : Answer → Bool
writes_rows (refusal number place) = leb 13 number && leb number 15
writes_rows (stopped limit height) = true
writes_rows admitted = true
writes_rows (judged result taken) = true
writes_rows (tree row) = true
writes_rows (pass count) = true
writes_rows (ran root used taken) = true
writes_rows (written count) = true

-- the current rows are then what it left there
abbrev pub current_rows : Answer → (left older : List ℕ) → List ℕ
current_rows answer left older = choose (writes_rows answer) left older

-- a step: the state behind it, and what it prints
pub record Step : Type 0 where
  pub state : State
  pub printed : List ℕ

abbrev pub quiet : State → Step
quiet state = record { state = state; printed = [] }

-- an answer's line, and the state behind it
abbrev pub answering : State → Answer → State → Step
answering state answer next = record { state = next; printed = labelled state (answer_text answer) }

module _ (state : State) where
  -- the questions about the contract
  abbrev pub admit_step : Step
  admit_step = answering state (admit (contract_of state)) state

  abbrev pub judge_step : (numbers : List ℕ) → Step
  judge_step numbers =
      let j : Judged = judging (contract_of state) numbers (untouched 5) in
      answering state j.answer (with_left state state.rows (words j.words))

  abbrev pub check_step : (limit : ℕ) → Step
  check_step limit =
      let k : Checked = checking (contract_of state) limit (untouched (3 * limit)) (untouched (5 * limit)) in
      answering state k.answer (with_left state (current_rows k.answer k.rows state.rows) (both k.rows k.words))

  abbrev pub run_step : (room : ℕ) (numbers : List ℕ) → Step
  run_step room numbers =
      let r : Ran = running (contract_of state) numbers (untouched (3 * room)) in
      answering state r.answer (with_left state (current_rows r.answer r.rows state.rows) (rows r.rows))

  -- a statement with the numbers of its list; `text` is where a label stands
  unfoldable pub step : (text : List ℕ) → Statement → List ℕ → Step
  step text (statement.Case span) values = quiet (with_label state (bytes_of text span))
  step text (statement.Size z n) values = quiet (with_size state z n)
  step text (statement.List (listed.Table t) count) values = quiet (with_table state t values)
  step text (statement.List listed.Rows count) values = quiet (with_rows state values)
  step text (statement.List listed.Judge count) values = judge_step values
  step text (statement.List (listed.Run r) count) values = run_step r values
  step text statement.Admit values = admit_step
  step text (statement.Check limit) values = check_step limit
  step text (statement.Write row room) values = record { state = state; printed = labelled state (written_text (writing_out state.rows row (untouched room))) }
  step text statement.Show values = record { state = state; printed = left_lines state state.left }

  -- what was read, done: nothing where there is no statement any more, and for a fault
  abbrev pub step_read : (text : List ℕ) → Result (Option Statement) Fault → List ℕ → Step
  step_read text (Ok (Some s)) values = step text s values
  step_read text (Ok None) values = quiet state
  step_read text (Err f) values = quiet state

-- what was expected, and what stood there
abbrev pub expected_text : Expected → List ℕ
expected_text expected.Statement = phrases.a_statement
expected_text expected.Number = phrases.a_number
expected_text expected.Name = phrases.a_name
expected_text expected.End = phrases.the_end
expected_text expected.Fewer = phrases.fewer

abbrev pub token_text : List ℕ → List ℕ
token_text token = choose (ltb most_shown (length token)) (take most_shown token ++ phrases.dots) token

abbrev pub standing_text : List ℕ → Span → List ℕ
standing_text text span = choose (leb (length text) span.start) phrases.the_end (token_text (bytes_of text span))

abbrev pub found_text : List ℕ → Fault → List ℕ
found_text text f = elim f.expected [
  | expected.Statement ↦ standing_text text f.span
  | expected.Number ↦ standing_text text f.span
  | expected.Name ↦ standing_text text f.span
  | expected.End ↦ phrases.more_than ++ decimal most_bytes ++ phrases.bytes_text
  | expected.Fewer ↦ standing_text text f.span
]

-- the line of a fault: where it is, what stood there and what was expected
unfoldable pub fault_line : List ℕ → Fault → List ℕ
fault_line text f =
    phrases.line_of ++ decimal (suc (newlines (take f.span.start text))) ++ phrases.found_text ++ found_text text f ++ phrases.expected_text
    ++ expected_text f.expected ++ (10 ∷ [])

module _ (text : List ℕ) (cut : Bool) where
  -- a script stops at its end, and at a fault; `next` is what is printed from the state and the place behind the statement on
  abbrev pub play_step : (State → ℕ → List ℕ) → State → List ℕ → Result (Option Reading) Misread → List ℕ
  play_step next state values (Ok (Some r)) = let s : Step = step state text r.statement values in s.printed ++ next s.state r.next
  play_step next state values (Ok None) = []
  play_step next state values (Err m) = fault_line text m.fault

  -- what is printed from a place on, of at most so many statements
  unfoldable pub played : ℕ → State → ℕ → List ℕ
  played zero state at = []
  played (suc n) state at =
      let r : Read (Option Reading) = statement_at text cut (most_numbers - state.used) at in
      play_step (played n) state r.values r.reading

  -- `help` is the only word
  abbrev pub asks_help : Bool
  asks_help =
      let span : Span = span_at text 0 in
      not cut && (same_list (bytes_of text span) phrases.help && leb (length text) (span_at text span.end).start)

-- what a script prints; each statement takes a byte at least, so there are no more statements than bytes
unfoldable pub meaning : (help script : List ℕ) → List ℕ
meaning help script =
    let text : List ℕ = take most_bytes script in
    let cut : Bool = ltb most_bytes (length script) in
    choose (asks_help text cut) help (played text cut (suc (length text)) initial 0)
