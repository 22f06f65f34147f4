-- Desks: which state of a script's definition the desk and the buffers stand for, and when a desk is in order.
use Rattle.std.specs.Prelude.{List, [], ◌∷◌, ℕ, ◌+◌, ◌-◌, ◌≤◌, take, Option, Some, None}
use Rattle.script.specs.Spans.{bytes_of}
use Rattle.script.specs.Meaning as meaning
use Rattle.model.specs.Tables.{Contract}
use Rattle.script.specs.Meaning.{State, contract_of, untouched, most_numbers}
use Rattle.script.specs.declared.spans.Span.{Span}
use Rattle.lexing.specs.declared.words.Size.{Size}
use Rattle.lexing.specs.declared.words.Size.TheVariants as size
use Rattle.lexing.specs.declared.words.Table.{Table}
use Rattle.lexing.specs.declared.words.Table.TheVariants as table
use Rattle.playing.specs.declared.desks.Sizes.{Sizes}
use Rattle.playing.specs.declared.desks.Tables.{Tables}
use Rattle.playing.specs.declared.desks.Left.{Left}
use Rattle.playing.specs.declared.desks.Left.TheVariants as left
use Rattle.playing.specs.declared.desks.Desk.{Desk}

-- so many numbers at the beginning of the buffer are for the row table that a check or a run leaves
abbrev pub kept : ℕ
kept = 12288

-- the numbers from one place to another
abbrev pub stretch : List ℕ → Span → List ℕ
stretch = bytes_of

abbrev pub span : ℕ → ℕ → Span
span start end = record { start = start; end = end }

-- the label of the lines: `-` until a token is one
abbrev pub label_of : List ℕ → Option Span → List ℕ
label_of text None = 45 ∷ []
label_of text (Some s) = bytes_of text s

abbrev pub sizes_of : Sizes → List ℕ
sizes_of s = s.symbols ∷ s.input_states ∷ s.output_states ∷ []

abbrev pub tables_of : List ℕ → Tables → List (List ℕ)
tables_of numbers t =
    stretch numbers t.counts ∷ stretch numbers t.input_rows ∷ stretch numbers t.input_marks ∷ stretch numbers t.output_table
    ∷ stretch numbers t.output_marks ∷ stretch numbers t.nodes ∷ stretch numbers t.rules ∷ []

abbrev pub left_of : (rows words : List ℕ) → Left → meaning.Left
left_of rows words left.Nothing = meaning.nothing
left_of rows words (left.Rows n) = meaning.rows (take n rows)
left_of rows words (left.Words m) = meaning.words (take m words)
left_of rows words (left.Both n m) = meaning.both (take n rows) (take m words)
left_of rows words (left.SevenRows n) = meaning.rows (untouched n)
left_of rows words (left.Sevens n m) = meaning.both (untouched n) (untouched m)

-- the state that a label, a desk, the buffer of numbers, and the row and word buffers stand for
abbrev pub state_of : List ℕ → Desk → (numbers rows words : List ℕ) → State
state_of labelled d numbers rows words =
    record {
      label = labelled;
      sizes = sizes_of d.sizes;
      tables = tables_of numbers d.tables;
      rows = stretch numbers d.rows;
      left = left_of rows words d.left;
      used = d.used - kept;
    }

-- the contract of a desk
abbrev pub contract_at : Desk → List ℕ → Contract
contract_at d numbers = contract_of (state_of [] d numbers [] [])

-- the desk before the first statement
abbrev pub empty_desk : Desk
empty_desk =
    let none : Span = span kept kept in
    record {
      sizes = record { symbols = 0; input_states = 0; output_states = 0 };
      tables = record { counts = none; input_rows = none; input_marks = none; output_table = none; output_marks = none; nodes = none; rules = none };
      rows = none;
      left = left.Nothing;
      used = kept;
    }

-- with another size, or another table
abbrev pub sizes_with : Sizes → Size → ℕ → Sizes
sizes_with s size.Symbols n = record { symbols = n; input_states = s.input_states; output_states = s.output_states }
sizes_with s size.InputStates n = record { symbols = s.symbols; input_states = n; output_states = s.output_states }
sizes_with s size.OutputStates n = record { symbols = s.symbols; input_states = s.input_states; output_states = n }

abbrev pub tables_with : Tables → Table → Span → Tables
tables_with t table.Counts s = record { counts = s; input_rows = t.input_rows; input_marks = t.input_marks; output_table = t.output_table; output_marks = t.output_marks; nodes = t.nodes; rules = t.rules }
tables_with t table.InputRows s = record { counts = t.counts; input_rows = s; input_marks = t.input_marks; output_table = t.output_table; output_marks = t.output_marks; nodes = t.nodes; rules = t.rules }
tables_with t table.InputMarks s = record { counts = t.counts; input_rows = t.input_rows; input_marks = s; output_table = t.output_table; output_marks = t.output_marks; nodes = t.nodes; rules = t.rules }
tables_with t table.OutputTable s = record { counts = t.counts; input_rows = t.input_rows; input_marks = t.input_marks; output_table = s; output_marks = t.output_marks; nodes = t.nodes; rules = t.rules }
tables_with t table.OutputMarks s = record { counts = t.counts; input_rows = t.input_rows; input_marks = t.input_marks; output_table = t.output_table; output_marks = s; nodes = t.nodes; rules = t.rules }
tables_with t table.Nodes s = record { counts = t.counts; input_rows = t.input_rows; input_marks = t.input_marks; output_table = t.output_table; output_marks = t.output_marks; nodes = s; rules = t.rules }
tables_with t table.Rules s = record { counts = t.counts; input_rows = t.input_rows; input_marks = t.input_marks; output_table = t.output_table; output_marks = t.output_marks; nodes = t.nodes; rules = s }

-- the desk with a size, with the free numbers up to an end as a table or as the current row table, and with other rows and
-- buffers left
abbrev pub desk_with_size : Desk → Size → ℕ → Desk
desk_with_size d z n = record { sizes = sizes_with d.sizes z n; tables = d.tables; rows = d.rows; left = d.left; used = d.used }

abbrev pub desk_with_table : Desk → Table → ℕ → Desk
desk_with_table d t end =
    record { sizes = d.sizes; tables = tables_with d.tables t (span d.used end); rows = d.rows; left = d.left; used = end }

abbrev pub desk_with_rows : Desk → ℕ → Desk
desk_with_rows d end = record { sizes = d.sizes; tables = d.tables; rows = span d.used end; left = d.left; used = end }

abbrev pub desk_with_left : Desk → Span → Left → Desk
desk_with_left d rows l = record { sizes = d.sizes; tables = d.tables; rows = rows; left = l; used = d.used }

-- a span that lies between two places
pub record Inside (low high : ℕ) (s : Span) : Type 0 where
  pub from : low ≤ s.start
  pub ordered : s.start ≤ s.end
  pub up_to : s.end ≤ high

pub record TablesInside (low high : ℕ) (t : Tables) : Type 0 where
  pub counts : Inside low high t.counts
  pub input_rows : Inside low high t.input_rows
  pub input_marks : Inside low high t.input_marks
  pub output_table : Inside low high t.output_table
  pub output_marks : Inside low high t.output_marks
  pub nodes : Inside low high t.nodes
  pub rules : Inside low high t.rules

-- what was left fits the row and word buffers; sevens are at most those of the greatest numbers
abbrev pub LeftFits : Left → Type 0
LeftFits left.Nothing = Unit {0}
LeftFits (left.Rows n) = n ≤ 12288
LeftFits (left.Words m) = m ≤ 2560
LeftFits (left.Both n m) = (n ≤ 12288) × (m ≤ 2560)
LeftFits (left.SevenRows n) = n ≤ 196605
LeftFits (left.Sevens n m) = (n ≤ 196605) × (m ≤ 327675)

-- a desk in order: tables behind the numbers kept and before the free ones
pub record InOrder (d : Desk) : Type 0 where
  pub tables : TablesInside kept d.used d.tables
  pub rows : Inside 0 d.used d.rows
  pub left : LeftFits d.left
  pub least : kept ≤ d.used
  pub most : d.used ≤ kept + most_numbers

-- a label that is a token lies within the text
abbrev pub LabelFits : Option Span → ℕ → Type 0
LabelFits None n = Unit {0}
LabelFits (Some s) n = Inside 0 n s
