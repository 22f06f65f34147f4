-- Plays: a statement is done. The desk and the buffers stand for the state behind the definition's step, and what is
-- printed is the step's text.
use Rattle.std.specs.Prelude.{◌≡◌, List, ℕ, ◌≤◌, length, Option, Some, None, Result, Ok, Err}
use Rattle.script.specs.Meaning.{Step}
use Rattle.script.specs.declared.statements.Statement.{Statement}
use Rattle.script.specs.declared.statements.Statement.TheVariants as statement
use Rattle.script.specs.declared.spans.Span.{Span}
use Rattle.script.specs.declared.spans.Fault.{Fault}
use Rattle.playing.specs.declared.desks.Desk.{Desk}
use Rattle.playing.specs.declared.answering.Done.{Done}
use Rattle.playing.specs.declared.showing.Printed.{Printed}
use Rattle.playing.specs.Desks.{state_of, InOrder}
use Rattle.playing.specs.Printed.{printed_text, PrintedFits, most_output}

-- the lengths of the row and word buffers, and of the output buffer
pub record Buffers (rows words out : List ℕ) : Type 0 where
  pub rows_long : length rows ≡ 12288
  pub words_long : length words ≡ 2560
  pub out_long : most_output ≤ length out

-- a step is done, with the label before it and behind it
pub record Plays (before after : List ℕ) (s : Step) (d : Desk) (numbers rows words out : List ℕ) (p : Printed) : Type 0 where
  pub state : state_of after d numbers rows words ≡ s.state
  pub text : printed_text before out p ≡ s.printed
  pub order : InOrder d
  pub fits : PrintedFits p (length out)

-- what stands behind a statement
abbrev pub done : Option Span → Desk → Printed → Done
done l d p = record { label = l; desk = d; printed = p }

-- how many numbers a statement's list has
abbrev pub count_of : Statement → ℕ
count_of (statement.Case s) = 0
count_of (statement.Size z n) = 0
count_of (statement.List l count) = count
count_of statement.Admit = 0
count_of (statement.Check limit) = 0
count_of (statement.Write row room) = 0
count_of statement.Show = 0

-- the label behind a statement
abbrev pub label_after : Statement → Option Span → Option Span
label_after (statement.Case s) l = Some s
label_after (statement.Size z n) l = l
label_after (statement.List k count) l = l
label_after statement.Admit l = l
label_after (statement.Check limit) l = l
label_after (statement.Write row room) l = l
label_after statement.Show l = l

-- and of what was read, which may be no statement
abbrev pub count_read : Result (Option Statement) Fault → ℕ
count_read (Ok (Some s)) = count_of s
count_read (Ok None) = 0
count_read (Err f) = 0

abbrev pub label_read : Result (Option Statement) Fault → Option Span → Option Span
label_read (Ok (Some s)) l = label_after s l
label_read (Ok None) l = l
label_read (Err f) l = l
