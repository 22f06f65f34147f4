-- The stages of admission, each over what it looks at alone; `Stages` has them over a whole contract.
use Rattle.std.specs.Prelude.{List, [], ℕ}
use Rattle.model.specs.Tables.{contract}
use Rattle.model.specs.Answers.{Verdict, ◌then◌, refuse_first}
use Rattle.model.specs.Admission.{size_wrong, length_wrong, input_rows, entries, counts, nodes, rules, facts}

-- refusals 1 and 2, which look at sizes and lengths alone
unfoldable pub shape : (S I O P : ℕ) (input_rows input_marks output_table output_marks nodes rules : ℕ) → Verdict
shape S I O P input_rows input_marks output_table output_marks nodes rules =
    refuse_first 1 (size_wrong S I O P) 4
    then refuse_first 2 (length_wrong S I O input_rows input_marks output_table output_marks nodes rules) 6

-- refusals 3 to 5, whatever the nodes and the rules are
unfoldable pub types : (S I O : ℕ) (counts input_rows input_marks output_table output_marks : List ℕ) → Verdict
types S I O cs rows input_marks table output_marks =
    let C = contract S I O cs rows input_marks table output_marks [] [] in input_rows C then entries C then counts C

-- refusals 30 to 34, 7 and 8, whatever the types are
unfoldable pub expressions : (S O : ℕ) (counts nodes rules : List ℕ) → Verdict
expressions S O cs ns rs = let C = contract S 0 O cs [] [] [] [] ns rs in nodes C then rules C then facts C
