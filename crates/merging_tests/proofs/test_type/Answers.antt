-- The tests go by place, so the first that fails has the lowest; behind them a search goes through table and marks.
use Rattle.std.proofs.Common.{sym, arith}
use Rattle.model.proofs.Laws.Merging.{symbols_fault, states_fault, table_fault, marks_fault}
use Rattle.merging_tests.specs.Answers.{type_handed}
use Rattle.merging_tests.proofs.Tests.{few_entries, bad_entry, no_bad_entry}
use Rattle.merging_tests.proofs.test_type.Goals as goal

pub returns-then-is_outside : goal.returns-then-is_outside
returns-then-is_outside c number = sym (symbols_fault _ _ number (sym c.if-is_outside.ensures))

pub returns-then-is_outside-2 : goal.returns-then-is_outside-2
returns-then-is_outside-2 c number = sym (states_fault _ _ number (sym c.if-is_outside.ensures) (sym c.if-is_outside-2.ensures))

pub returns-then-tested-table_length : goal.returns-then-tested-table_length
returns-then-tested-table_length c number =
    sym (table_fault _ _ number (sym c.if-is_outside.ensures) (sym c.if-is_outside-2.ensures) (λ e. omega arith))

pub returns-then-tested : goal.returns-then-tested
returns-then-tested c number =
    sym (marks_fault _ _ number (sym c.if-is_outside.ensures) (sym c.if-is_outside-2.ensures) (omega arith) (λ e. omega arith))

pub first_bad_entry-requires : goal.first_bad_entry-requires
first_bad_entry-requires c =
    let tested = c.args.tested.now in
    few_entries tested.symbols (type_handed tested)
    (record { symbols = sym c.if-is_outside.ensures; states = sym c.if-is_outside-2.ensures; table_long = omega arith; marks_long = omega arith })

pub returns-in-Some : goal.returns-in-Some
returns-in-Some c number =
    let tested = c.args.tested.now in
    bad_entry tested.symbols (type_handed tested)
    (record { symbols = sym c.if-is_outside.ensures; states = sym c.if-is_outside-2.ensures; table_long = omega arith; marks_long = omega arith })
    number c.in-Some.entry c.in-Some.ensures

pub returns : goal.returns
returns c number =
    let tested = c.args.tested.now in
    no_bad_entry tested.symbols (type_handed tested)
    (record { symbols = sym c.if-is_outside.ensures; states = sym c.if-is_outside-2.ensures; table_long = omega arith; marks_long = omega arith })
    number c.in_default.ensures
