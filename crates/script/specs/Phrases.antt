-- Phrases: the bytes of the words that a script's answers are made of.
use Rattle.std.specs.Prelude.{List, [], ◌∷◌, ℕ}

-- "admitted"
abbrev pub admitted : List ℕ
admitted = 97 ∷ 100 ∷ 109 ∷ 105 ∷ 116 ∷ 116 ∷ 101 ∷ 100 ∷ []

-- "judged "
abbrev pub judged : List ℕ
judged = 106 ∷ 117 ∷ 100 ∷ 103 ∷ 101 ∷ 100 ∷ 32 ∷ []

-- "pass "
abbrev pub passed : List ℕ
passed = 112 ∷ 97 ∷ 115 ∷ 115 ∷ 32 ∷ []

-- "tree "
abbrev pub shown : List ℕ
shown = 116 ∷ 114 ∷ 101 ∷ 101 ∷ 32 ∷ []

-- "run "
abbrev pub ran : List ℕ
ran = 114 ∷ 117 ∷ 110 ∷ 32 ∷ []

-- "written "
abbrev pub wrote : List ℕ
wrote = 119 ∷ 114 ∷ 105 ∷ 116 ∷ 116 ∷ 101 ∷ 110 ∷ 32 ∷ []

-- "refused "
abbrev pub refused : List ℕ
refused = 114 ∷ 101 ∷ 102 ∷ 117 ∷ 115 ∷ 101 ∷ 100 ∷ 32 ∷ []

-- "rows"
abbrev pub rows : List ℕ
rows = 114 ∷ 111 ∷ 119 ∷ 115 ∷ []

-- "words"
abbrev pub words : List ℕ
words = 119 ∷ 111 ∷ 114 ∷ 100 ∷ 115 ∷ []

-- "line "
abbrev pub line_of : List ℕ
line_of = 108 ∷ 105 ∷ 110 ∷ 101 ∷ 32 ∷ []

-- ": found "
abbrev pub found_text : List ℕ
found_text = 58 ∷ 32 ∷ 102 ∷ 111 ∷ 117 ∷ 110 ∷ 100 ∷ 32 ∷ []

-- ", expected "
abbrev pub expected_text : List ℕ
expected_text = 44 ∷ 32 ∷ 101 ∷ 120 ∷ 112 ∷ 101 ∷ 99 ∷ 116 ∷ 101 ∷ 100 ∷ 32 ∷ []

-- "more than "
abbrev pub more_than : List ℕ
more_than = 109 ∷ 111 ∷ 114 ∷ 101 ∷ 32 ∷ 116 ∷ 104 ∷ 97 ∷ 110 ∷ 32 ∷ []

-- " bytes"
abbrev pub bytes_text : List ℕ
bytes_text = 32 ∷ 98 ∷ 121 ∷ 116 ∷ 101 ∷ 115 ∷ []

-- "the end of the script"
abbrev pub the_end : List ℕ
the_end = 116 ∷ 104 ∷ 101 ∷ 32 ∷ 101 ∷ 110 ∷ 100 ∷ 32 ∷ 111 ∷ 102 ∷ 32 ∷ 116 ∷ 104 ∷ 101 ∷ 32 ∷ 115 ∷ 99 ∷ 114 ∷ 105 ∷ 112 ∷ 116 ∷ []

-- "..."
abbrev pub dots : List ℕ
dots = 46 ∷ 46 ∷ 46 ∷ []

-- "a statement"
abbrev pub a_statement : List ℕ
a_statement = 97 ∷ 32 ∷ 115 ∷ 116 ∷ 97 ∷ 116 ∷ 101 ∷ 109 ∷ 101 ∷ 110 ∷ 116 ∷ []

-- "a number from 0 to 65535"
abbrev pub a_number : List ℕ
a_number = 97 ∷ 32 ∷ 110 ∷ 117 ∷ 109 ∷ 98 ∷ 101 ∷ 114 ∷ 32 ∷ 102 ∷ 114 ∷ 111 ∷ 109 ∷ 32 ∷ 48 ∷ 32 ∷ 116 ∷ 111 ∷ 32 ∷ 54 ∷ 53 ∷ 53 ∷ 51 ∷ 53 ∷ []

-- "a name"
abbrev pub a_name : List ℕ
a_name = 97 ∷ 32 ∷ 110 ∷ 97 ∷ 109 ∷ 101 ∷ []

-- "fewer numbers"
abbrev pub fewer : List ℕ
fewer = 102 ∷ 101 ∷ 119 ∷ 101 ∷ 114 ∷ 32 ∷ 110 ∷ 117 ∷ 109 ∷ 98 ∷ 101 ∷ 114 ∷ 115 ∷ []

-- "help"
abbrev pub help : List ℕ
help = 104 ∷ 101 ∷ 108 ∷ 112 ∷ []
