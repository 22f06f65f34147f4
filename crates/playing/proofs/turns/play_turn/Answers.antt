-- What is read has room, and what is done with it is the definition's step; or the script stops.
use Rattle.std.proofs.Common.{sym, ap, ◌∙◌, ◌≤◌, Ok, length, arith}
use Rattle.script.specs.Meaning.{fault_line}
use Rattle.playing.proofs.LineLaws.{appended_first, appended_within}
use Rattle.playing.proofs.TurnLaws.{fault_short, count_fits, turn_on, turn_end, turn_fault}
use Rattle.playing.proofs.turns.play_turn.Goals as goal

pub do_statement-done-requires : goal.do_statement-done-requires
do_statement-done-requires c =
    let a = c.args in
    let er = ap Ok (sym c.in-Ok-Some.field-0-is) ∙ c.in-Ok-Some.ensures.value in
    (c.requires.0, count_fits a.text.now a.cut a.at a.label a.desk c.requires.0 a.numbers.now a.rows.now a.words.now c.requires.2 er c.in-Ok-Some.ensures.numbers_after c.read_next.auto.numbers, c.read_next.auto.numbers ∙ c.requires.2, c.requires.3, c.requires.4)

pub returns-in-Ok-Some : goal.returns-in-Ok-Some
returns-in-Ok-Some c =
    let a = c.args in
    let er = ap Ok (sym c.in-Ok-Some.field-0-is) ∙ c.in-Ok-Some.ensures.value in
    turn_on a.text.now a.cut a.at a.label a.desk c.requires.0 a.numbers.now a.rows.now a.words.now c.requires.2 er c.in-Ok-Some.ensures.numbers_after (c.do_statement-done.ensures.by_index a.text.now) c.requires.1 c.do_statement-done.ensures.label_value

pub returns-in-Ok-None : goal.returns-in-Ok-None
returns-in-Ok-None c =
    let a = c.args in
    let er = ap Ok (sym c.in-Ok-None.field-0-is) ∙ c.in-Ok-None.ensures.value in
    turn_end a.text.now a.cut a.at a.label a.desk c.requires.0 a.numbers.now a.rows.now a.words.now c.requires.2 er c.requires.1

pub returns-in-Err : goal.returns-in-Err
returns-in-Err c =
    let a = c.args in
    let out = a.out.now in
    let line = fault_line a.text.now c.in-Err.field-0.fault in
    let short : length line ≤ length out = omega (arith, fault_short a.text.now c.in-Err.field-0.fault, c.requires.3.out_long) in
    turn_fault a.text.now a.cut a.at a.label a.desk c.requires.0 a.numbers.now a.rows.now a.words.now c.requires.2 c.in-Err.ensures.value (appended_first out line c.fault_line.ensures short) (appended_within out line c.fault_line.ensures short) c.requires.1
