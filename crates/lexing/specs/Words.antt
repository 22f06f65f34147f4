-- Words: the bytes of the words that begin statements.
use Rattle.std.specs.Prelude.{List, [], ◌∷◌, ℕ}
use Rattle.foundation.specs.Tests.{choose}
use Rattle.foundation.specs.Lists.{same_list}
use Rattle.lexing.specs.declared.words.Size.TheVariants as size
use Rattle.lexing.specs.declared.words.Table.TheVariants as table
use Rattle.lexing.specs.declared.words.Word.{Word}
use Rattle.lexing.specs.declared.words.Word.TheVariants as word

-- a word that asks a question
unfoldable pub question_word : List ℕ → Word
question_word token =
    -- admit
    choose (same_list token (97 ∷ 100 ∷ 109 ∷ 105 ∷ 116 ∷ [])) word.Admit
    -- judge
    (choose (same_list token (106 ∷ 117 ∷ 100 ∷ 103 ∷ 101 ∷ [])) word.Judge
    -- check
    (choose (same_list token (99 ∷ 104 ∷ 101 ∷ 99 ∷ 107 ∷ [])) word.Check
    -- run
    (choose (same_list token (114 ∷ 117 ∷ 110 ∷ [])) word.Run
    -- write
    (choose (same_list token (119 ∷ 114 ∷ 105 ∷ 116 ∷ 101 ∷ [])) word.Write
    -- show
    (choose (same_list token (115 ∷ 104 ∷ 111 ∷ 119 ∷ [])) word.Show
    word.Unknown)))))

-- a word that sets a table of the contract, or asks a question
unfoldable pub table_word : List ℕ → Word
table_word token =
    -- counts
    choose (same_list token (99 ∷ 111 ∷ 117 ∷ 110 ∷ 116 ∷ 115 ∷ [])) (word.Table table.Counts)
    -- input-rows
    (choose (same_list token (105 ∷ 110 ∷ 112 ∷ 117 ∷ 116 ∷ 45 ∷ 114 ∷ 111 ∷ 119 ∷ 115 ∷ [])) (word.Table table.InputRows)
    -- input-marks
    (choose (same_list token (105 ∷ 110 ∷ 112 ∷ 117 ∷ 116 ∷ 45 ∷ 109 ∷ 97 ∷ 114 ∷ 107 ∷ 115 ∷ [])) (word.Table table.InputMarks)
    -- output-table
    (choose (same_list token (111 ∷ 117 ∷ 116 ∷ 112 ∷ 117 ∷ 116 ∷ 45 ∷ 116 ∷ 97 ∷ 98 ∷ 108 ∷ 101 ∷ [])) (word.Table table.OutputTable)
    -- output-marks
    (choose (same_list token (111 ∷ 117 ∷ 116 ∷ 112 ∷ 117 ∷ 116 ∷ 45 ∷ 109 ∷ 97 ∷ 114 ∷ 107 ∷ 115 ∷ [])) (word.Table table.OutputMarks)
    -- nodes
    (choose (same_list token (110 ∷ 111 ∷ 100 ∷ 101 ∷ 115 ∷ [])) (word.Table table.Nodes)
    -- rules
    (choose (same_list token (114 ∷ 117 ∷ 108 ∷ 101 ∷ 115 ∷ [])) (word.Table table.Rules)
    (question_word token)))))))

-- the word that a token is
unfoldable pub word_of : List ℕ → Word
word_of token =
    -- case
    choose (same_list token (99 ∷ 97 ∷ 115 ∷ 101 ∷ [])) word.Case
    -- symbols
    (choose (same_list token (115 ∷ 121 ∷ 109 ∷ 98 ∷ 111 ∷ 108 ∷ 115 ∷ [])) (word.Size size.Symbols)
    -- input-states
    (choose (same_list token (105 ∷ 110 ∷ 112 ∷ 117 ∷ 116 ∷ 45 ∷ 115 ∷ 116 ∷ 97 ∷ 116 ∷ 101 ∷ 115 ∷ [])) (word.Size size.InputStates)
    -- output-states
    (choose (same_list token (111 ∷ 117 ∷ 116 ∷ 112 ∷ 117 ∷ 116 ∷ 45 ∷ 115 ∷ 116 ∷ 97 ∷ 116 ∷ 101 ∷ 115 ∷ [])) (word.Size size.OutputStates)
    -- rows
    (choose (same_list token (114 ∷ 111 ∷ 119 ∷ 115 ∷ [])) word.Rows
    (table_word token)))))
