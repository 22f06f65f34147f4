-- The sizes and places by which the code's tables are laid out.
use Rattle.std.specs.Prelude.{List, ℕ, ◌+◌}
use Rattle.model.specs.Tables.{rule_count}

-- the most of each that an admitted contract has
abbrev pub most_symbols : ℕ
most_symbols = 16

-- the symbols that rules have: those of the contract, and S, which stay rules have
abbrev pub rule_symbols : ℕ
rule_symbols = 17

abbrev pub most_input_states : ℕ
most_input_states = 32

abbrev pub most_procedures : ℕ
most_procedures = 16

abbrev pub most_rows : ℕ
most_rows = 512

abbrev pub most_nodes : ℕ
most_nodes = 256

abbrev pub most_rules : ℕ
most_rules = 256

-- The table of lists begins with four numbers for each symbol s that rules have: at place s where the list of the nodes that its rules reach
-- starts, and further on how many they are, its first rule, and its first input row.
abbrev pub list_lengths : ℕ
list_lengths = 17

abbrev pub first_rules : ℕ
first_rules = 34

abbrev pub first_rows : ℕ
first_rows = 51

-- Then it has after each rule the next one of its symbol, the same for input rows, and the nodes.
abbrev pub next_rules : ℕ
next_rules = 68

abbrev pub next_rows : (rules : List ℕ) → ℕ
next_rows rules = next_rules + rule_count rules
