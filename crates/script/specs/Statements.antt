-- Statements: what stands at a place of a script. A list's numbers are given beside the statement, which has their count.
use Rattle.std.specs.Prelude.{Bool, List, [], ℕ, leb, length, Option, Some, None, Result, Ok, Err}
use Rattle.foundation.specs.Tests.{choose}
use Rattle.lexing.specs.Words.{word_of}
use Rattle.script.specs.Spans.{whole_at, fault, bytes_of, due_at, listing, numbers_of}
use Rattle.script.specs.declared.spans.Span.{Span}
use Rattle.script.specs.declared.spans.Expected.TheVariants as expected
use Rattle.script.specs.declared.spans.Fault.{Fault}
use Rattle.lexing.specs.declared.words.Size.{Size}
use Rattle.lexing.specs.declared.words.Word.{Word}
use Rattle.lexing.specs.declared.words.Word.TheVariants as word
use Rattle.script.specs.declared.statements.Listed.{Listed}
use Rattle.script.specs.declared.statements.Listed.TheVariants as listed
use Rattle.script.specs.declared.statements.Statement.{Statement}
use Rattle.script.specs.declared.statements.Statement.TheVariants as statement
use Rattle.script.specs.declared.statements.Reading.{Reading}
use Rattle.script.specs.declared.statements.Misread.{Misread}

-- what was read, or the fault in it, and the numbers of its list
pub record Read (A : Type 0) : Type 0 where
  pub reading : Result A Misread
  pub values : List ℕ

abbrev pub reading : Statement → ℕ → Reading
reading s next = record { statement = s; next = next }

-- a fault, and the place up to which the statement was read
abbrev pub misread : Fault → ℕ → Misread
misread f next = record { fault = f; next = next }

-- with no list
abbrev pub plain : {A : Type 0} → Result A Misread → Read A
plain r = record { reading = r; values = [] }

abbrev pub failed : {A : Type 0} → Misread → Read A
failed m = plain (Err m)

-- a number must stand at a place, and what is made of it and the place behind it
abbrev pub with_number : {A : Type 0} → (Misread → A) → ℕ → Result (ℕ × ℕ) Fault → (ℕ → ℕ → A) → A
with_number on_fault at (Ok number) then = then number.0 number.1
with_number on_fault at (Err f) then = on_fault (misread f at)

-- a list of numbers from a place on, by how it ends
abbrev pub list_by : Listed → ℕ → Result (ℕ × ℕ) Fault → Result Reading Misread
list_by l at (Ok numbers) = Ok (reading (statement.List l numbers.0) numbers.1)
list_by l at (Err f) = Err (misread f at)

abbrev pub some_of : Result Reading Misread → Result (Option Reading) Misread
some_of (Ok r) = Ok (Some r)
some_of (Err m) = Err m

abbrev pub found : Read Reading → Read (Option Reading)
found r = record { reading = some_of r.reading; values = r.values }

module _ (text : List ℕ) (cut : Bool) where
  -- case NAME
  abbrev pub name_from : ℕ → Result Span Fault → Result Reading Misread
  name_from at (Ok span) = choose (leb (length text) span.start) (Err (misread (fault span expected.Name) at)) (Ok (reading (statement.Case span) span.end))
  name_from at (Err f) = Err (misread f at)

  unfoldable pub name_at : ℕ → Result Reading Misread
  name_at at = name_from at (whole_at text cut at)

  -- symbols N, input-states N, output-states N
  unfoldable pub size_at : ℕ → Size → Result Reading Misread
  size_at at size = with_number Err at (due_at text cut at) (λ value next. Ok (reading (statement.Size size value) next))

  -- check L
  unfoldable pub check_at : ℕ → Result Reading Misread
  check_at at = with_number Err at (due_at text cut at) (λ limit next. Ok (reading (statement.Check limit) next))

  -- write J B
  unfoldable pub write_at : ℕ → Result Reading Misread
  write_at at =
      with_number Err at (due_at text cut at)
      (λ row behind. with_number Err behind (due_at text cut behind) (λ room next. Ok (reading (statement.Write row room) next)))

  -- the numbers of a list, into a buffer with so much room
  unfoldable pub list_at : (room at : ℕ) → Listed → Read Reading
  list_at room at l = record { reading = list_by l at (numbers_of (listing text cut room at)); values = (listing text cut room at).values }

  -- run R N ..
  unfoldable pub run_at : (room at : ℕ) → Read Reading
  run_at room at = with_number failed at (due_at text cut at) (λ rows next. list_at room next (listed.Run rows))

  -- the rest of a statement behind its word
  unfoldable pub word_at : ℕ → Span → Word → Read Reading
  word_at room span word.Case = plain (name_at span.end)
  word_at room span (word.Size size) = plain (size_at span.end size)
  word_at room span (word.Table table) = list_at room span.end (listed.Table table)
  word_at room span word.Rows = list_at room span.end listed.Rows
  word_at room span word.Admit = plain (Ok (reading statement.Admit span.end))
  word_at room span word.Judge = list_at room span.end listed.Judge
  word_at room span word.Check = plain (check_at span.end)
  word_at room span word.Run = run_at room span.end
  word_at room span word.Write = plain (write_at span.end)
  word_at room span word.Show = plain (Ok (reading statement.Show span.end))
  word_at room span word.Unknown = failed (misread (fault span expected.Statement) span.start)

  abbrev pub statement_from : (room at : ℕ) → Result Span Fault → Read (Option Reading)
  statement_from room at (Ok span) = choose (leb (length text) span.start) (plain (Ok None)) (found (word_at room span (word_of (bytes_of text span))))
  statement_from room at (Err f) = failed (misread f at)

  -- the statement at a place, if there is one any more: at the end of the text nothing is read, and the place stays the same
  unfoldable pub statement_at : (room at : ℕ) → Read (Option Reading)
  statement_at room at = statement_from room at (whole_at text cut at)
