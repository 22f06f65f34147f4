-- A statement that was read is done; where none was, nothing is.
use Rattle.std.proofs.Common.{◌≡◌, ap, ◌∙◌, ◌+◌, Some, None, Ok}
use Rattle.playing.specs.Desks.{label_of, stretch, span}
use Rattle.playing.specs.Plays.{count_read}
use Rattle.playing.proofs.StatementLaws.{plays_end, plays_fault}
use Rattle.playing.proofs.statements.do_statement.Goals as goal

pub returns-in-Ok-Some-clause-by_index : goal.returns-in-Ok-Some-clause-by_index
returns-in-Ok-Some-clause-by_index c =
    let inner : c.in-Ok-Some.field-0 ≡ Some c.in-Ok-Some.statement = rw c.in-Ok-Some.is at c.in-Ok-Some.field-0-is in
    let read : c.args.read ≡ Ok (Some c.in-Ok-Some.statement) = c.in-Ok-Some.is ∙ ap Ok inner in
    rw read c.do_one.ensures.by_index

pub returns-in-Ok-None-clause-by_index : goal.returns-in-Ok-None-clause-by_index
returns-in-Ok-None-clause-by_index c =
    let a = c.args in
    let inner : c.in-Ok-None.field-0 ≡ None = rw c.in-Ok-None.is at c.in-Ok-None.field-0-is in
    let read : a.read ≡ Ok None = c.in-Ok-None.is ∙ ap Ok inner in
    λ text. rw c.nothing_done.ensures (plays_end (label_of text a.label) a.numbers.now a.rows.now a.words.now a.out.now text a.desk c.requires.0 (stretch a.numbers.now (span a.desk.used (a.desk.used + count_read a.read))) read)

pub returns-in-Err-clause-by_index : goal.returns-in-Err-clause-by_index
returns-in-Err-clause-by_index c =
    let a = c.args in
    λ text. rw c.nothing_done-in-Err.ensures (plays_fault (label_of text a.label) a.numbers.now a.rows.now a.words.now a.out.now text a.desk c.requires.0 (stretch a.numbers.now (span a.desk.used (a.desk.used + count_read a.read))) c.in-Err.is)
