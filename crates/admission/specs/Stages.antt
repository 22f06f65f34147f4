-- The stages of admission: its parts in groups, each of which relies on those before it.
use Rattle.model.specs.Tables.{Contract}
use Rattle.model.specs.Answers.{Verdict, ◌then◌}
use Rattle.model.specs.Admission.{sizes, lengths, input_rows, entries, counts, nodes, rules, facts}

-- refusals 1 and 2
abbrev pub shape : Contract → Verdict
shape C = sizes C then lengths C

-- refusals 3 to 5
abbrev pub types : Contract → Verdict
types C = input_rows C then entries C then counts C

-- refusals 30 to 34, 7 and 8
abbrev pub expressions : Contract → Verdict
expressions C = nodes C then rules C then facts C
