-- Each answer is the one that the tests before it lead to in the definition.
use mathlib.Core.Path.{refl}
use native.Mathlib.Omega.{arith}
use Rattle.std.proofs.lemmas.Result.{err_from_is_err_and}
use Rattle.writing.proofs.Ready.{Ready, ready}
use Rattle.writing.proofs.Answers.{tests_passed, wrong_rows, no_row, row_few, no_room, all_written}
use Rattle.writing.proofs.write_out.Goals as goal

pub returns-in_err-table : goal.returns-in_err-table
returns-in_err-table c =
    let e = err_from_is_err_and c.from_residual.result c.from_residual.ensures.1 in
    rw (e.1, e.2) (wrong_rows c.args.rows.now c.args.row c.args.buffer.now c.in_err-table.field-0.0 c.in_err-table.ensures.verdict)

pub returns-then-count-row : goal.returns-then-count-row
returns-then-count-row c =
    let all = rw c.in_ok-table.ensures.same at c.count.ensures in
    no_row _ _ c.args.buffer.now c.in_ok-table.ensures.verdict (omega arith)

pub tree_size-size-requires : goal.tree_size-size-requires
tree_size-size-requires c =
    let all = rw c.in_ok-table.ensures.same at c.count.ensures in
    let (right, none) = tests_passed _ c.in_ok-table.ensures.verdict in
    let tested : Ready c.args.rows.now c.args.row = ready _ _ _ right refl none (omega arith) in
    let few = row_few _ _ tested in
    rw c.in_ok-table.ensures.same (omega arith, omega arith, omega arith, omega arith)

pub returns-then-room-size : goal.returns-then-room-size
returns-then-room-size c =
    let all = rw c.in_ok-table.ensures.same at c.count.ensures in
    let (right, none) = tests_passed _ c.in_ok-table.ensures.verdict in
    let tested : Ready c.args.rows.now c.args.row = ready _ _ _ right refl none (omega arith) in
    no_room _ _ _ tested _ (rw c.in_ok-table.ensures.same at c.tree_size-size.ensures) (omega arith)

pub returns : goal.returns
returns c =
    let all = rw c.in_ok-table.ensures.same at c.count.ensures in
    let (right, none) = tests_passed _ c.in_ok-table.ensures.verdict in
    let tested : Ready c.args.rows.now c.args.row = ready _ _ _ right refl none (omega arith) in
    all_written _ _ c.args.buffer.now tested _ (rw c.in_ok-table.ensures.same at c.tree_size-size.ensures) c.if-room-size.false
    _ (rw c.in_ok-table.ensures.same at c.write_row.ensures.0)
    _ (rw c.in_ok-table.ensures.same at c.write_row.ensures.1)
