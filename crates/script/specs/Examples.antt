-- Examples: small scripts and what they print, computed from the definition.
use Rattle.std.specs.Prelude.{◌≡◌, refl, [], ◌∷◌}
use Rattle.foundation.specs.Lists.{same_list, zero_filled}
use Rattle.foundation.specs.Tests.{same, ◌and◌}
use Rattle.foundation.specs.Search.{first}
use Rattle.model.specs.Trees.{preorder}
use Rattle.model.specs.Rows.{tree_below, tree_at}
use Rattle.model.specs.Answers.{◌then◌, refuse_if, refuse_first, given}
use Rattle.model.specs.Admission.{sizes, lengths, input_rows, entries, counts, nodes, rules, facts, admission, admit}
use Rattle.model.specs.WritingOut.{writing_verdict, writing_out}
use Rattle.lexing.specs.Text.{token_start, token_end, newlines}
use Rattle.lexing.specs.Numerals.{numeral_from, numeral_of}
use Rattle.lexing.specs.Words.{question_word, table_word, word_of}
use Rattle.script.specs.Spans.{ahead_at, due_at, listing}
use Rattle.script.specs.Statements.{name_at, size_at, check_at, write_at, list_at, run_at, word_at, statement_at}
use Rattle.printing.specs.Decimals.{digits_onto, decimal}
use Rattle.script.specs.Meaning.{spaced, step, fault_line, played, meaning}

unfoldable computing : Unit {0}
unfolding same_list zero_filled same ◌and◌ first preorder tree_below tree_at ◌then◌ refuse_if refuse_first given sizes lengths input_rows entries counts nodes rules facts admission admit writing_verdict writing_out token_start token_end newlines numeral_from numeral_of question_word table_word word_of ahead_at due_at listing name_at size_at check_at write_at list_at run_at word_at statement_at digits_onto decimal spaced step fault_line played meaning
computing = tt

-- admit
-- prints - refused 1 0 /
pub admits : meaning (63 ∷ []) (97 ∷ 100 ∷ 109 ∷ 105 ∷ 116 ∷ []) ≡ 45 ∷ 32 ∷ 114 ∷ 101 ∷ 102 ∷ 117 ∷ 115 ∷ 101 ∷ 100 ∷ 32 ∷ 49 ∷ 32 ∷ 48 ∷ 10 ∷ []
unfolding computing
admits = refl

-- case a#b / admit show
-- prints a refused 1 0 /
pub labels : meaning (63 ∷ []) (99 ∷ 97 ∷ 115 ∷ 101 ∷ 32 ∷ 97 ∷ 35 ∷ 98 ∷ 10 ∷ 97 ∷ 100 ∷ 109 ∷ 105 ∷ 116 ∷ 32 ∷ 115 ∷ 104 ∷ 111 ∷ 119 ∷ []) ≡ 97 ∷ 32 ∷ 114 ∷ 101 ∷ 102 ∷ 117 ∷ 115 ∷ 101 ∷ 100 ∷ 32 ∷ 49 ∷ 32 ∷ 48 ∷ 10 ∷ []
unfolding computing
labels = refl

-- rows 0 0 0 1 0 0 write 1 9
-- prints - written 3: 1 0 0 /
pub writes : meaning (63 ∷ []) (114 ∷ 111 ∷ 119 ∷ 115 ∷ 32 ∷ 48 ∷ 32 ∷ 48 ∷ 32 ∷ 48 ∷ 32 ∷ 49 ∷ 32 ∷ 48 ∷ 32 ∷ 48 ∷ 32 ∷ 119 ∷ 114 ∷ 105 ∷ 116 ∷ 101 ∷ 32 ∷ 49 ∷ 32 ∷ 57 ∷ []) ≡ 45 ∷ 32 ∷ 119 ∷ 114 ∷ 105 ∷ 116 ∷ 116 ∷ 101 ∷ 110 ∷ 32 ∷ 51 ∷ 58 ∷ 32 ∷ 49 ∷ 32 ∷ 48 ∷ 32 ∷ 48 ∷ 10 ∷ []
unfolding computing
writes = refl

-- admit / chek 5
-- prints - refused 1 0 / line 2: found chek, expected a statement /
pub stops : meaning (63 ∷ []) (97 ∷ 100 ∷ 109 ∷ 105 ∷ 116 ∷ 10 ∷ 99 ∷ 104 ∷ 101 ∷ 107 ∷ 32 ∷ 53 ∷ []) ≡ 45 ∷ 32 ∷ 114 ∷ 101 ∷ 102 ∷ 117 ∷ 115 ∷ 101 ∷ 100 ∷ 32 ∷ 49 ∷ 32 ∷ 48 ∷ 10 ∷ 108 ∷ 105 ∷ 110 ∷ 101 ∷ 32 ∷ 50 ∷ 58 ∷ 32 ∷ 102 ∷ 111 ∷ 117 ∷ 110 ∷ 100 ∷ 32 ∷ 99 ∷ 104 ∷ 101 ∷ 107 ∷ 44 ∷ 32 ∷ 101 ∷ 120 ∷ 112 ∷ 101 ∷ 99 ∷ 116 ∷ 101 ∷ 100 ∷ 32 ∷ 97 ∷ 32 ∷ 115 ∷ 116 ∷ 97 ∷ 116 ∷ 101 ∷ 109 ∷ 101 ∷ 110 ∷ 116 ∷ 10 ∷ []
unfolding computing
stops = refl

-- symbols
-- prints line 1: found the end of the script, expected a number from 0 to 65535 /
pub ends : meaning (63 ∷ []) (115 ∷ 121 ∷ 109 ∷ 98 ∷ 111 ∷ 108 ∷ 115 ∷ []) ≡ 108 ∷ 105 ∷ 110 ∷ 101 ∷ 32 ∷ 49 ∷ 58 ∷ 32 ∷ 102 ∷ 111 ∷ 117 ∷ 110 ∷ 100 ∷ 32 ∷ 116 ∷ 104 ∷ 101 ∷ 32 ∷ 101 ∷ 110 ∷ 100 ∷ 32 ∷ 111 ∷ 102 ∷ 32 ∷ 116 ∷ 104 ∷ 101 ∷ 32 ∷ 115 ∷ 99 ∷ 114 ∷ 105 ∷ 112 ∷ 116 ∷ 44 ∷ 32 ∷ 101 ∷ 120 ∷ 112 ∷ 101 ∷ 99 ∷ 116 ∷ 101 ∷ 100 ∷ 32 ∷ 97 ∷ 32 ∷ 110 ∷ 117 ∷ 109 ∷ 98 ∷ 101 ∷ 114 ∷ 32 ∷ 102 ∷ 114 ∷ 111 ∷ 109 ∷ 32 ∷ 48 ∷ 32 ∷ 116 ∷ 111 ∷ 32 ∷ 54 ∷ 53 ∷ 53 ∷ 51 ∷ 53 ∷ 10 ∷ []
unfolding computing
ends = refl

-- judge 65536
-- prints line 1: found 65536, expected a number from 0 to 65535 /
pub large : meaning (63 ∷ []) (106 ∷ 117 ∷ 100 ∷ 103 ∷ 101 ∷ 32 ∷ 54 ∷ 53 ∷ 53 ∷ 51 ∷ 54 ∷ []) ≡ 108 ∷ 105 ∷ 110 ∷ 101 ∷ 32 ∷ 49 ∷ 58 ∷ 32 ∷ 102 ∷ 111 ∷ 117 ∷ 110 ∷ 100 ∷ 32 ∷ 54 ∷ 53 ∷ 53 ∷ 51 ∷ 54 ∷ 44 ∷ 32 ∷ 101 ∷ 120 ∷ 112 ∷ 101 ∷ 99 ∷ 116 ∷ 101 ∷ 100 ∷ 32 ∷ 97 ∷ 32 ∷ 110 ∷ 117 ∷ 109 ∷ 98 ∷ 101 ∷ 114 ∷ 32 ∷ 102 ∷ 114 ∷ 111 ∷ 109 ∷ 32 ∷ 48 ∷ 32 ∷ 116 ∷ 111 ∷ 32 ∷ 54 ∷ 53 ∷ 53 ∷ 51 ∷ 53 ∷ 10 ∷ []
unfolding computing
large = refl

--  help /
-- prints the help text, for which the one byte `?` stands here
pub helps : meaning (63 ∷ []) (32 ∷ 104 ∷ 101 ∷ 108 ∷ 112 ∷ 10 ∷ []) ≡ 63 ∷ []
unfolding computing
helps = refl
