-- Help: what `help` prints, one line for each statement of a script.
use Rattle.std.specs.Prelude.{List, [], ◌∷◌, ◌++◌, ℕ}

-- "case NAME: the label of the answers that follow"
abbrev pub case_line : List ℕ
case_line = 99 ∷ 97 ∷ 115 ∷ 101 ∷ 32 ∷ 78 ∷ 65 ∷ 77 ∷ 69 ∷ 58 ∷ 32 ∷ 116 ∷ 104 ∷ 101 ∷ 32 ∷ 108 ∷ 97 ∷ 98 ∷ 101 ∷ 108 ∷ 32 ∷ 111 ∷ 102 ∷ 32 ∷ 116 ∷ 104 ∷ 101 ∷ 32 ∷ 97 ∷ 110 ∷ 115 ∷ 119 ∷ 101 ∷ 114 ∷ 115 ∷ 32 ∷ 116 ∷ 104 ∷ 97 ∷ 116 ∷ 32 ∷ 102 ∷ 111 ∷ 108 ∷ 108 ∷ 111 ∷ 119 ∷ 10 ∷ []

-- "symbols N: how many symbols there are"
abbrev pub symbols_line : List ℕ
symbols_line = 115 ∷ 121 ∷ 109 ∷ 98 ∷ 111 ∷ 108 ∷ 115 ∷ 32 ∷ 78 ∷ 58 ∷ 32 ∷ 104 ∷ 111 ∷ 119 ∷ 32 ∷ 109 ∷ 97 ∷ 110 ∷ 121 ∷ 32 ∷ 115 ∷ 121 ∷ 109 ∷ 98 ∷ 111 ∷ 108 ∷ 115 ∷ 32 ∷ 116 ∷ 104 ∷ 101 ∷ 114 ∷ 101 ∷ 32 ∷ 97 ∷ 114 ∷ 101 ∷ 10 ∷ []

-- "input-states N: how many input states there are"
abbrev pub input_states_line : List ℕ
input_states_line = 105 ∷ 110 ∷ 112 ∷ 117 ∷ 116 ∷ 45 ∷ 115 ∷ 116 ∷ 97 ∷ 116 ∷ 101 ∷ 115 ∷ 32 ∷ 78 ∷ 58 ∷ 32 ∷ 104 ∷ 111 ∷ 119 ∷ 32 ∷ 109 ∷ 97 ∷ 110 ∷ 121 ∷ 32 ∷ 105 ∷ 110 ∷ 112 ∷ 117 ∷ 116 ∷ 32 ∷ 115 ∷ 116 ∷ 97 ∷ 116 ∷ 101 ∷ 115 ∷ 32 ∷ 116 ∷ 104 ∷ 101 ∷ 114 ∷ 101 ∷ 32 ∷ 97 ∷ 114 ∷ 101 ∷ 10 ∷ []

-- "output-states N: how many output states there are"
abbrev pub output_states_line : List ℕ
output_states_line = 111 ∷ 117 ∷ 116 ∷ 112 ∷ 117 ∷ 116 ∷ 45 ∷ 115 ∷ 116 ∷ 97 ∷ 116 ∷ 101 ∷ 115 ∷ 32 ∷ 78 ∷ 58 ∷ 32 ∷ 104 ∷ 111 ∷ 119 ∷ 32 ∷ 109 ∷ 97 ∷ 110 ∷ 121 ∷ 32 ∷ 111 ∷ 117 ∷ 116 ∷ 112 ∷ 117 ∷ 116 ∷ 32 ∷ 115 ∷ 116 ∷ 97 ∷ 116 ∷ 101 ∷ 115 ∷ 32 ∷ 116 ∷ 104 ∷ 101 ∷ 114 ∷ 101 ∷ 32 ∷ 97 ∷ 114 ∷ 101 ∷ 10 ∷ []

-- "counts N ..: how many parameters each procedure has"
abbrev pub counts_line : List ℕ
counts_line = 99 ∷ 111 ∷ 117 ∷ 110 ∷ 116 ∷ 115 ∷ 32 ∷ 78 ∷ 32 ∷ 46 ∷ 46 ∷ 58 ∷ 32 ∷ 104 ∷ 111 ∷ 119 ∷ 32 ∷ 109 ∷ 97 ∷ 110 ∷ 121 ∷ 32 ∷ 112 ∷ 97 ∷ 114 ∷ 97 ∷ 109 ∷ 101 ∷ 116 ∷ 101 ∷ 114 ∷ 115 ∷ 32 ∷ 101 ∷ 97 ∷ 99 ∷ 104 ∷ 32 ∷ 112 ∷ 114 ∷ 111 ∷ 99 ∷ 101 ∷ 100 ∷ 117 ∷ 114 ∷ 101 ∷ 32 ∷ 104 ∷ 97 ∷ 115 ∷ 10 ∷ []

-- "input-rows N ..: state, symbol, left state, right state"
abbrev pub input_rows_line : List ℕ
input_rows_line = 105 ∷ 110 ∷ 112 ∷ 117 ∷ 116 ∷ 45 ∷ 114 ∷ 111 ∷ 119 ∷ 115 ∷ 32 ∷ 78 ∷ 32 ∷ 46 ∷ 46 ∷ 58 ∷ 32 ∷ 115 ∷ 116 ∷ 97 ∷ 116 ∷ 101 ∷ 44 ∷ 32 ∷ 115 ∷ 121 ∷ 109 ∷ 98 ∷ 111 ∷ 108 ∷ 44 ∷ 32 ∷ 108 ∷ 101 ∷ 102 ∷ 116 ∷ 32 ∷ 115 ∷ 116 ∷ 97 ∷ 116 ∷ 101 ∷ 44 ∷ 32 ∷ 114 ∷ 105 ∷ 103 ∷ 104 ∷ 116 ∷ 32 ∷ 115 ∷ 116 ∷ 97 ∷ 116 ∷ 101 ∷ 10 ∷ []

-- "input-marks N ..: 1 for each accepted input state, otherwise 0"
abbrev pub input_marks_line : List ℕ
input_marks_line = 105 ∷ 110 ∷ 112 ∷ 117 ∷ 116 ∷ 45 ∷ 109 ∷ 97 ∷ 114 ∷ 107 ∷ 115 ∷ 32 ∷ 78 ∷ 32 ∷ 46 ∷ 46 ∷ 58 ∷ 32 ∷ 49 ∷ 32 ∷ 102 ∷ 111 ∷ 114 ∷ 32 ∷ 101 ∷ 97 ∷ 99 ∷ 104 ∷ 32 ∷ 97 ∷ 99 ∷ 99 ∷ 101 ∷ 112 ∷ 116 ∷ 101 ∷ 100 ∷ 32 ∷ 105 ∷ 110 ∷ 112 ∷ 117 ∷ 116 ∷ 32 ∷ 115 ∷ 116 ∷ 97 ∷ 116 ∷ 101 ∷ 44 ∷ 32 ∷ 111 ∷ 116 ∷ 104 ∷ 101 ∷ 114 ∷ 119 ∷ 105 ∷ 115 ∷ 101 ∷ 32 ∷ 48 ∷ 10 ∷ []

-- "output-table N ..: the state of symbol 0, then by symbol, left state and right state"
abbrev pub output_table_line : List ℕ
output_table_line = 111 ∷ 117 ∷ 116 ∷ 112 ∷ 117 ∷ 116 ∷ 45 ∷ 116 ∷ 97 ∷ 98 ∷ 108 ∷ 101 ∷ 32 ∷ 78 ∷ 32 ∷ 46 ∷ 46 ∷ 58 ∷ 32 ∷ 116 ∷ 104 ∷ 101 ∷ 32 ∷ 115 ∷ 116 ∷ 97 ∷ 116 ∷ 101 ∷ 32 ∷ 111 ∷ 102 ∷ 32 ∷ 115 ∷ 121 ∷ 109 ∷ 98 ∷ 111 ∷ 108 ∷ 32 ∷ 48 ∷ 44 ∷ 32 ∷ 116 ∷ 104 ∷ 101 ∷ 110 ∷ 32 ∷ 98 ∷ 121 ∷ 32 ∷ 115 ∷ 121 ∷ 109 ∷ 98 ∷ 111 ∷ 108 ∷ 44 ∷ 32 ∷ 108 ∷ 101 ∷ 102 ∷ 116 ∷ 32 ∷ 115 ∷ 116 ∷ 97 ∷ 116 ∷ 101 ∷ 32 ∷ 97 ∷ 110 ∷ 100 ∷ 32 ∷ 114 ∷ 105 ∷ 103 ∷ 104 ∷ 116 ∷ 32 ∷ 115 ∷ 116 ∷ 97 ∷ 116 ∷ 101 ∷ 10 ∷ []

-- "output-marks N ..: 1 for each accepted output state, otherwise 0"
abbrev pub output_marks_line : List ℕ
output_marks_line = 111 ∷ 117 ∷ 116 ∷ 112 ∷ 117 ∷ 116 ∷ 45 ∷ 109 ∷ 97 ∷ 114 ∷ 107 ∷ 115 ∷ 32 ∷ 78 ∷ 32 ∷ 46 ∷ 46 ∷ 58 ∷ 32 ∷ 49 ∷ 32 ∷ 102 ∷ 111 ∷ 114 ∷ 32 ∷ 101 ∷ 97 ∷ 99 ∷ 104 ∷ 32 ∷ 97 ∷ 99 ∷ 99 ∷ 101 ∷ 112 ∷ 116 ∷ 101 ∷ 100 ∷ 32 ∷ 111 ∷ 117 ∷ 116 ∷ 112 ∷ 117 ∷ 116 ∷ 32 ∷ 115 ∷ 116 ∷ 97 ∷ 116 ∷ 101 ∷ 44 ∷ 32 ∷ 111 ∷ 116 ∷ 104 ∷ 101 ∷ 114 ∷ 119 ∷ 105 ∷ 115 ∷ 101 ∷ 32 ∷ 48 ∷ 10 ∷ []

-- "nodes N ..: tag, name, child, first, second"
abbrev pub nodes_line : List ℕ
nodes_line = 110 ∷ 111 ∷ 100 ∷ 101 ∷ 115 ∷ 32 ∷ 78 ∷ 32 ∷ 46 ∷ 46 ∷ 58 ∷ 32 ∷ 116 ∷ 97 ∷ 103 ∷ 44 ∷ 32 ∷ 110 ∷ 97 ∷ 109 ∷ 101 ∷ 44 ∷ 32 ∷ 99 ∷ 104 ∷ 105 ∷ 108 ∷ 100 ∷ 44 ∷ 32 ∷ 102 ∷ 105 ∷ 114 ∷ 115 ∷ 116 ∷ 44 ∷ 32 ∷ 115 ∷ 101 ∷ 99 ∷ 111 ∷ 110 ∷ 100 ∷ 10 ∷ []

-- "rules N ..: procedure, symbol, node"
abbrev pub rules_line : List ℕ
rules_line = 114 ∷ 117 ∷ 108 ∷ 101 ∷ 115 ∷ 32 ∷ 78 ∷ 32 ∷ 46 ∷ 46 ∷ 58 ∷ 32 ∷ 112 ∷ 114 ∷ 111 ∷ 99 ∷ 101 ∷ 100 ∷ 117 ∷ 114 ∷ 101 ∷ 44 ∷ 32 ∷ 115 ∷ 121 ∷ 109 ∷ 98 ∷ 111 ∷ 108 ∷ 44 ∷ 32 ∷ 110 ∷ 111 ∷ 100 ∷ 101 ∷ 10 ∷ []

-- "admit: admit the contract"
abbrev pub admit_line : List ℕ
admit_line = 97 ∷ 100 ∷ 109 ∷ 105 ∷ 116 ∷ 58 ∷ 32 ∷ 97 ∷ 100 ∷ 109 ∷ 105 ∷ 116 ∷ 32 ∷ 116 ∷ 104 ∷ 101 ∷ 32 ∷ 99 ∷ 111 ∷ 110 ∷ 116 ∷ 114 ∷ 97 ∷ 99 ∷ 116 ∷ 10 ∷ []

-- "judge N ..: judge the document that the numbers begin with"
abbrev pub judge_line : List ℕ
judge_line = 106 ∷ 117 ∷ 100 ∷ 103 ∷ 101 ∷ 32 ∷ 78 ∷ 32 ∷ 46 ∷ 46 ∷ 58 ∷ 32 ∷ 106 ∷ 117 ∷ 100 ∷ 103 ∷ 101 ∷ 32 ∷ 116 ∷ 104 ∷ 101 ∷ 32 ∷ 100 ∷ 111 ∷ 99 ∷ 117 ∷ 109 ∷ 101 ∷ 110 ∷ 116 ∷ 32 ∷ 116 ∷ 104 ∷ 97 ∷ 116 ∷ 32 ∷ 116 ∷ 104 ∷ 101 ∷ 32 ∷ 110 ∷ 117 ∷ 109 ∷ 98 ∷ 101 ∷ 114 ∷ 115 ∷ 32 ∷ 98 ∷ 101 ∷ 103 ∷ 105 ∷ 110 ∷ 32 ∷ 119 ∷ 105 ∷ 116 ∷ 104 ∷ 10 ∷ []

-- "check L: check the contract, listing at most L kinds"
abbrev pub check_line : List ℕ
check_line = 99 ∷ 104 ∷ 101 ∷ 99 ∷ 107 ∷ 32 ∷ 76 ∷ 58 ∷ 32 ∷ 99 ∷ 104 ∷ 101 ∷ 99 ∷ 107 ∷ 32 ∷ 116 ∷ 104 ∷ 101 ∷ 32 ∷ 99 ∷ 111 ∷ 110 ∷ 116 ∷ 114 ∷ 97 ∷ 99 ∷ 116 ∷ 44 ∷ 32 ∷ 108 ∷ 105 ∷ 115 ∷ 116 ∷ 105 ∷ 110 ∷ 103 ∷ 32 ∷ 97 ∷ 116 ∷ 32 ∷ 109 ∷ 111 ∷ 115 ∷ 116 ∷ 32 ∷ 76 ∷ 32 ∷ 107 ∷ 105 ∷ 110 ∷ 100 ∷ 115 ∷ 10 ∷ []

-- "run R N ..: run the transformation on the document that the numbers begin with, with room for R rows"
abbrev pub run_line : List ℕ
run_line = 114 ∷ 117 ∷ 110 ∷ 32 ∷ 82 ∷ 32 ∷ 78 ∷ 32 ∷ 46 ∷ 46 ∷ 58 ∷ 32 ∷ 114 ∷ 117 ∷ 110 ∷ 32 ∷ 116 ∷ 104 ∷ 101 ∷ 32 ∷ 116 ∷ 114 ∷ 97 ∷ 110 ∷ 115 ∷ 102 ∷ 111 ∷ 114 ∷ 109 ∷ 97 ∷ 116 ∷ 105 ∷ 111 ∷ 110 ∷ 32 ∷ 111 ∷ 110 ∷ 32 ∷ 116 ∷ 104 ∷ 101 ∷ 32 ∷ 100 ∷ 111 ∷ 99 ∷ 117 ∷ 109 ∷ 101 ∷ 110 ∷ 116 ∷ 32 ∷ 116 ∷ 104 ∷ 97 ∷ 116 ∷ 32 ∷ 116 ∷ 104 ∷ 101 ∷ 32 ∷ 110 ∷ 117 ∷ 109 ∷ 98 ∷ 101 ∷ 114 ∷ 115 ∷ 32 ∷ 98 ∷ 101 ∷ 103 ∷ 105 ∷ 110 ∷ 32 ∷ 119 ∷ 105 ∷ 116 ∷ 104 ∷ 44 ∷ 32 ∷ 119 ∷ 105 ∷ 116 ∷ 104 ∷ 32 ∷ 114 ∷ 111 ∷ 111 ∷ 109 ∷ 32 ∷ 102 ∷ 111 ∷ 114 ∷ 32 ∷ 82 ∷ 32 ∷ 114 ∷ 111 ∷ 119 ∷ 115 ∷ 10 ∷ []

-- "rows N ..: the row table that write reads"
abbrev pub rows_line : List ℕ
rows_line = 114 ∷ 111 ∷ 119 ∷ 115 ∷ 32 ∷ 78 ∷ 32 ∷ 46 ∷ 46 ∷ 58 ∷ 32 ∷ 116 ∷ 104 ∷ 101 ∷ 32 ∷ 114 ∷ 111 ∷ 119 ∷ 32 ∷ 116 ∷ 97 ∷ 98 ∷ 108 ∷ 101 ∷ 32 ∷ 116 ∷ 104 ∷ 97 ∷ 116 ∷ 32 ∷ 119 ∷ 114 ∷ 105 ∷ 116 ∷ 101 ∷ 32 ∷ 114 ∷ 101 ∷ 97 ∷ 100 ∷ 115 ∷ 10 ∷ []

-- "write J B: write out the tree of row J, with room for B numbers"
abbrev pub write_line : List ℕ
write_line = 119 ∷ 114 ∷ 105 ∷ 116 ∷ 101 ∷ 32 ∷ 74 ∷ 32 ∷ 66 ∷ 58 ∷ 32 ∷ 119 ∷ 114 ∷ 105 ∷ 116 ∷ 101 ∷ 32 ∷ 111 ∷ 117 ∷ 116 ∷ 32 ∷ 116 ∷ 104 ∷ 101 ∷ 32 ∷ 116 ∷ 114 ∷ 101 ∷ 101 ∷ 32 ∷ 111 ∷ 102 ∷ 32 ∷ 114 ∷ 111 ∷ 119 ∷ 32 ∷ 74 ∷ 44 ∷ 32 ∷ 119 ∷ 105 ∷ 116 ∷ 104 ∷ 32 ∷ 114 ∷ 111 ∷ 111 ∷ 109 ∷ 32 ∷ 102 ∷ 111 ∷ 114 ∷ 32 ∷ 66 ∷ 32 ∷ 110 ∷ 117 ∷ 109 ∷ 98 ∷ 101 ∷ 114 ∷ 115 ∷ 10 ∷ []

-- "show: the buffers as the last check, run or judge left them"
abbrev pub show_line : List ℕ
show_line = 115 ∷ 104 ∷ 111 ∷ 119 ∷ 58 ∷ 32 ∷ 116 ∷ 104 ∷ 101 ∷ 32 ∷ 98 ∷ 117 ∷ 102 ∷ 102 ∷ 101 ∷ 114 ∷ 115 ∷ 32 ∷ 97 ∷ 115 ∷ 32 ∷ 116 ∷ 104 ∷ 101 ∷ 32 ∷ 108 ∷ 97 ∷ 115 ∷ 116 ∷ 32 ∷ 99 ∷ 104 ∷ 101 ∷ 99 ∷ 107 ∷ 44 ∷ 32 ∷ 114 ∷ 117 ∷ 110 ∷ 32 ∷ 111 ∷ 114 ∷ 32 ∷ 106 ∷ 117 ∷ 100 ∷ 103 ∷ 101 ∷ 32 ∷ 108 ∷ 101 ∷ 102 ∷ 116 ∷ 32 ∷ 116 ∷ 104 ∷ 101 ∷ 109 ∷ 10 ∷ []

-- the label and the sizes of a contract
unfoldable pub sizes_help : List ℕ
sizes_help = case_line ++ symbols_line ++ input_states_line ++ output_states_line

-- the tables of a contract
unfoldable pub tables_help : List ℕ
tables_help = counts_line ++ input_rows_line ++ input_marks_line ++ output_table_line ++ output_marks_line ++ nodes_line ++ rules_line

-- admission, judging, checking and running
unfoldable pub questions_help : List ℕ
questions_help = admit_line ++ judge_line ++ check_line ++ run_line

-- rows, and what is in the buffers
unfoldable pub buffers_help : List ℕ
buffers_help = rows_line ++ write_line ++ show_line

unfoldable pub help : List ℕ
help = sizes_help ++ tables_help ++ questions_help ++ buffers_help
