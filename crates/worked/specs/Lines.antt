-- Lines: the text of the worked cases, "case, answer, numbers". Document 01's definitions give the answers.
use Rattle.std.specs.Prelude.{List, [], ◌∷◌, ◌++◌, ℕ}
use Rattle.model.specs.Tables.{Contract}
use Rattle.model.specs.Answers.{Answer}
use Rattle.script.specs.Meaning as script
use Rattle.script.specs.Meaning.{answer_text}
use Rattle.worked_table.specs.Questions as questions
use Rattle.worked_table.specs.Questions.{Question, ask}
use Rattle.worked_table.specs.WorkedContracts.{both_accepted, C1, C2, C3}

-- the line of an answer, behind a name
abbrev pub answer_line : List ℕ → Answer → List ℕ
answer_line name answer = name ++ script.line (answer_text answer)

unfoldable pub line : List ℕ → Contract → Question → List ℕ
line name C question = answer_line name (ask C question).answer

-- X1 to X5
unfoldable pub checks_of_c1 : List ℕ
checks_of_c1 =
    line (88 ∷ 49 ∷ []) (C1 both_accepted) (questions.check 2)
    ++ line (88 ∷ 50 ∷ []) (C1 both_accepted) (questions.check 1)
    ++ line (88 ∷ 51 ∷ []) (C1 (0 ∷ 1 ∷ [])) (questions.check 1)
    ++ line (88 ∷ 52 ∷ []) (C1 (1 ∷ 0 ∷ [])) (questions.check 512)
    ++ line (88 ∷ 53 ∷ []) (C1 (1 ∷ 0 ∷ [])) (questions.check 1)

-- X6 to X8
unfoldable pub runs_of_c2 : List ℕ
runs_of_c2 =
    line (88 ∷ 54 ∷ []) C2 (questions.run 100 (1 ∷ 0 ∷ 1 ∷ 0 ∷ 0 ∷ []))
    ++ line (88 ∷ 55 ∷ []) C2 (questions.run 100 (0 ∷ []))
    ++ line (88 ∷ 56 ∷ []) C2 (questions.run 2 (1 ∷ 0 ∷ 1 ∷ 0 ∷ 0 ∷ []))

-- X9 to X11
unfoldable pub judgings_of_c1 : List ℕ
judgings_of_c1 =
    line (88 ∷ 57 ∷ []) (C1 both_accepted) (questions.judge (1 ∷ 0 ∷ []))
    ++ line (88 ∷ 49 ∷ 48 ∷ []) (C1 both_accepted) (questions.judge (1 ∷ 0 ∷ 0 ∷ 0 ∷ []))
    ++ line (88 ∷ 49 ∷ 49 ∷ []) (C1 both_accepted) (questions.judge [])

-- X12 and X13
unfoldable pub lines_of_c3 : List ℕ
lines_of_c3 =
    line (88 ∷ 49 ∷ 50 ∷ []) (C3 (0 ∷ 0 ∷ [])) (questions.check 512)
    ++ line (88 ∷ 49 ∷ 51 ∷ []) (C3 both_accepted) (questions.run 100 (1 ∷ 0 ∷ 0 ∷ []))

unfoldable pub worked_lines : List ℕ
worked_lines = checks_of_c1 ++ runs_of_c2 ++ judgings_of_c1 ++ lines_of_c3
