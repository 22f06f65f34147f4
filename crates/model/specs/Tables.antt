-- The tables of a contract, each tuple read by name.
use Rattle.std.specs.Prelude.{List, ℕ, ◌+◌, ◌*◌, ◌-◌, ◌/◌, length, get_or}

-- "Input type: .. rows (state, symbol, left state, right state)", "I accept marks"
pub record InputType : Type 0 where
  pub states : ℕ
  pub rows : List ℕ
  pub marks : List ℕ

-- "Output type: total and deterministic", "O accept marks"
pub record OutputType : Type 0 where
  pub states : ℕ
  pub table : List ℕ
  pub marks : List ℕ

-- a macro tree transducer: symbols, "a list of P parameter counts", expression nodes and rules
pub record Transformation : Type 0 where
  pub symbols : ℕ
  pub counts : List ℕ
  pub nodes : List ℕ
  pub rules : List ℕ

-- "A contract is that transformation with an input type and an output type."
pub record Contract : Type 0 where
  pub transformation : Transformation
  pub input : InputType
  pub output : OutputType

-- an output type from what is handed in
abbrev pub type_of : (states : ℕ) (table marks : List ℕ) → OutputType
type_of states table marks = record { states = states; table = table; marks = marks }

-- a contract from what is handed in, in document 01's order
abbrev pub contract : (S I O : ℕ) (counts input_rows input_marks output_table output_marks nodes rules : List ℕ) → Contract
contract S I O counts input_rows input_marks output_table output_marks nodes rules =
    record {
      transformation = record { symbols = S; counts = counts; nodes = nodes; rules = rules };
      input = record { states = I; rows = input_rows; marks = input_marks };
      output = type_of O output_table output_marks;
    }

-- "(state, symbol, left state, right state)"
pub record InputRow : Type 0 where
  pub state : ℕ
  pub symbol : ℕ
  pub left : ℕ
  pub right : ℕ

abbrev pub input_row : List ℕ → ℕ → InputRow
input_row rows r =
    record {
      state = get_or rows (4 * r) 0;
      symbol = get_or rows (4 * r + 1) 0;
      left = get_or rows (4 * r + 2) 0;
      right = get_or rows (4 * r + 3) 0;
    }

abbrev pub input_row_count : List ℕ → ℕ
input_row_count rows = length rows / 4

-- "First the state of symbol 0; then for each symbol from 1, each left state, each right state, the resulting state."
abbrev pub empty_state : OutputType → ℕ
empty_state Y = get_or Y.table 0 0

abbrev pub next_state : OutputType → (symbol left right : ℕ) → ℕ
next_state Y symbol left right = get_or Y.table (1 + ((symbol - 1) * Y.states + left) * Y.states + right) 0

-- "each (tag, name, child, first, second)"
pub record Node : Type 0 where
  pub tag : ℕ
  pub name : ℕ
  pub child : ℕ
  pub first : ℕ
  pub second : ℕ

abbrev pub node_at : List ℕ → ℕ → Node
node_at nodes n =
    record {
      tag = get_or nodes (5 * n) 0;
      name = get_or nodes (5 * n + 1) 0;
      child = get_or nodes (5 * n + 2) 0;
      first = get_or nodes (5 * n + 3) 0;
      second = get_or nodes (5 * n + 4) 0;
    }

abbrev pub node_count : List ℕ → ℕ
node_count nodes = length nodes / 5

-- "each (procedure, symbol, node)"
pub record Rule : Type 0 where
  pub procedure : ℕ
  pub symbol : ℕ
  pub node : ℕ

abbrev pub rule_at : List ℕ → ℕ → Rule
rule_at rules r = record { procedure = get_or rules (3 * r) 0; symbol = get_or rules (3 * r + 1) 0; node = get_or rules (3 * r + 2) 0 }

abbrev pub rule_count : List ℕ → ℕ
rule_count rules = length rules / 3

-- the parameter count of a procedure
abbrev pub count_of : List ℕ → ℕ → ℕ
count_of counts p = get_or counts p 0

-- an accept mark is 1
abbrev pub mark_at : List ℕ → ℕ → ℕ
mark_at marks q = get_or marks q 0
