-- Case by case: what the list is known to be for, and the step that it is.
use Rattle.std.proofs.Common.{◌+◌}
use Rattle.playing.specs.Desks.{label_of, state_of, stretch, span}
use Rattle.playing.proofs.StatementLaws.{plays_table, plays_rows, plays_as, step_judge, step_run}
use Rattle.playing.proofs.statements.do_list.Goals as goal

pub returns-in-Table-clause-by_index : goal.returns-in-Table-clause-by_index
returns-in-Table-clause-by_index c =
    let a = c.args in
    λ text. plays_table (label_of text a.label) a.numbers.now a.rows.now a.words.now a.out.now text a.desk c.requires.0 a.count c.requires.1 c.requires.2 c.in-Table.is c.set_table.ensures

pub returns-in-Rows-clause-by_index : goal.returns-in-Rows-clause-by_index
returns-in-Rows-clause-by_index c =
    let a = c.args in
    λ text. plays_rows (label_of text a.label) a.numbers.now a.rows.now a.words.now a.out.now text a.desk c.requires.0 a.count c.requires.1 c.requires.2 c.in-Rows.is c.set_rows.ensures

pub returns-in-Judge-clause-by_index : goal.returns-in-Judge-clause-by_index
returns-in-Judge-clause-by_index c =
    let a = c.args in
    let listed = stretch a.numbers.now (span a.desk.used (a.desk.used + a.count)) in
    λ text.
    let state = state_of (label_of text a.label) a.desk a.numbers.now a.rows.now a.words.now in
    let step = step_judge state text a.count listed c.in-Judge.is in
    rw (c.under.ensures.desk, c.under.ensures.printed) (plays_as text c.under.ensures.label step (c.answer-given.ensures.by_index (label_of text a.label)))

pub returns-in-Run-clause-by_index : goal.returns-in-Run-clause-by_index
returns-in-Run-clause-by_index c =
    let a = c.args in
    let listed = stretch a.numbers.now (span a.desk.used (a.desk.used + a.count)) in
    λ text.
    let state = state_of (label_of text a.label) a.desk a.numbers.now a.rows.now a.words.now in
    let step = step_run state text a.count listed c.in-Run.is c.from.ensures in
    rw (c.under-in-Run.ensures.desk, c.under-in-Run.ensures.printed) (plays_as text c.under-in-Run.ensures.label step (c.answer-given-in-Run.ensures.by_index (label_of text a.label)))
