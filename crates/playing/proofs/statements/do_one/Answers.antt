-- Case by case: what the statement is known to be, and the step that it is.
use Rattle.std.proofs.Common.{◌+◌, take, arith}
use lib.Seq.{length-take-le}
use Rattle.playing.specs.Desks.{label_of, state_of, stretch, span}
use Rattle.playing.specs.Plays.{count_of}
use Rattle.playing.proofs.StatementLaws.{plays_case, plays_size, plays_as, plays_write, plays_show, step_admit, step_check}
use Rattle.playing.proofs.statements.do_one.Goals as goal

pub returns-in-Case-clause-by_index : goal.returns-in-Case-clause-by_index
returns-in-Case-clause-by_index c =
    let a = c.args in
    λ text. plays_case (label_of text a.label) a.numbers.now a.rows.now a.words.now a.out.now text a.desk c.requires.0 (stretch a.numbers.now (span a.desk.used (a.desk.used + count_of a.statement))) c.in-Case.is

pub returns-in-Size-clause-by_index : goal.returns-in-Size-clause-by_index
returns-in-Size-clause-by_index c =
    let a = c.args in
    λ text. plays_size (label_of text a.label) a.numbers.now a.rows.now a.words.now a.out.now text a.desk c.requires.0 (stretch a.numbers.now (span a.desk.used (a.desk.used + count_of a.statement))) c.in-Size.is c.from.ensures c.set_size.ensures

pub returns-in-List-clause-by_index : goal.returns-in-List-clause-by_index
returns-in-List-clause-by_index c =
    let a = c.args in
    λ text. rw c.in-List.is (c.do_list.ensures.by_index text)

pub returns-in-Admit-clause-by_index : goal.returns-in-Admit-clause-by_index
returns-in-Admit-clause-by_index c =
    let a = c.args in
    let listed = stretch a.numbers.now (span a.desk.used (a.desk.used + count_of a.statement)) in
    let none = stretch a.numbers.now (span a.desk.used a.desk.used) in
    λ text.
    let state = state_of (label_of text a.label) a.desk a.numbers.now a.rows.now a.words.now in
    let step = step_admit state text listed none c.in-Admit.is in
    rw (c.under.ensures.desk, c.under.ensures.printed) (plays_as text c.under.ensures.label step (c.answer-given.ensures.by_index (label_of text a.label)))

pub returns-in-Check-clause-by_index : goal.returns-in-Check-clause-by_index
returns-in-Check-clause-by_index c =
    let a = c.args in
    let listed = stretch a.numbers.now (span a.desk.used (a.desk.used + count_of a.statement)) in
    let none = stretch a.numbers.now (span a.desk.used a.desk.used) in
    λ text.
    let state = state_of (label_of text a.label) a.desk a.numbers.now a.rows.now a.words.now in
    let step = step_check state text listed none c.in-Check.is c.from-in-Check.ensures in
    rw (c.under-in-Check.ensures.desk, c.under-in-Check.ensures.printed) (plays_as text c.under-in-Check.ensures.label step (c.answer-given-in-Check.ensures.by_index (label_of text a.label)))

pub returns-in-Write-clause-by_index : goal.returns-in-Write-clause-by_index
returns-in-Write-clause-by_index c =
    let a = c.args in
    let listed = stretch a.numbers.now (span a.desk.used (a.desk.used + count_of a.statement)) in
    let tree = take c.from-room.result a.tree.now in
    let written = c.write-printed.ensures in
    λ text. plays_write (label_of text a.label) a.numbers.now a.rows.now a.words.now c.write-printed.new.out text a.desk c.requires.0 listed tree c.in-Write.is c.from-in-Write.ensures (length-take-le _ _ (omega arith)) c.from-room.ensures written.result_after written.printed_fits

pub returns-in-Show-clause-by_index : goal.returns-in-Show-clause-by_index
returns-in-Show-clause-by_index c =
    let a = c.args in
    λ text. plays_show (label_of text a.label) a.numbers.now a.rows.now a.words.now c.show-printed.new.out text a.desk c.requires.0 (stretch a.numbers.now (span a.desk.used (a.desk.used + count_of a.statement))) c.in-Show.is c.show-printed.ensures.result_after c.show-printed.ensures.printed_fits
