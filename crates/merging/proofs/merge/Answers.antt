-- What the tests tell is refused, with nothing written; behind them both buffers are filled, and what stands in them is the merged type.
use Rattle.std.proofs.Common.{arith}
use Rattle.std.proofs.lemmas.Result.{err_from_is_err_and}
use Rattle.merging.proofs.Results.{handed, types_failed, types_known, few_states, result_failed, mergeable, few, good_first, good_second, both_written}
use Rattle.merging.proofs.merge.Goals as goal

pub returns-in_err-test_types : goal.returns-in_err-test_types
returns-in_err-test_types c =
    let a = c.args in
    let p = err_from_is_err_and c.from_residual.result c.from_residual.ensures.1 in
    rw (p.1, p.2) (types_failed (handed a.first.now a.second.now a.merged_table.now a.merged_marks.now) _ _ c.in_err-test_types.ensures)

pub overflow_mul-merged : goal.overflow_mul-merged
overflow_mul-merged c =
    let a = c.args in
    omega (arith, few_states (handed a.first.now a.second.now a.merged_table.now a.merged_marks.now) c.in_ok-test_types.ensures)

pub test_result-requires : goal.test_result-requires
test_result-requires c =
    let a = c.args in
    (types_known (handed a.first.now a.second.now a.merged_table.now a.merged_marks.now) c.in_ok-test_types.ensures).0.symbols

pub returns-in_err-test_result : goal.returns-in_err-test_result
returns-in_err-test_result c =
    let a = c.args in
    let p = err_from_is_err_and c.from_residual-in_err-test_result.result c.from_residual-in_err-test_result.ensures.1 in
    rw (p.1, p.2)
    (result_failed (handed a.first.now a.second.now a.merged_table.now a.merged_marks.now) c.in_ok-test_types.ensures _ _ c.in_err-test_result.ensures)

pub invariant_of-states : goal.invariant_of-states
invariant_of-states c =
    let a = c.args in
    record { few = few (handed a.first.now a.second.now a.merged_table.now a.merged_marks.now) c.in_ok-test_types.ensures c.in_ok-test_result.ensures }

pub fill_table-requires : goal.fill_table-requires
fill_table-requires c =
    let a = c.args in
    let h = handed a.first.now a.second.now a.merged_table.now a.merged_marks.now in
    let p = c.in_ok-test_types.ensures in
    let f = c.in_ok-test_result.ensures in
    record {
      symbols = (mergeable h p f).first.symbols;
      below = ((good_first h p f).entry, (good_second h p f).entry);
      second_in_bounds = (mergeable h p f).table_room;
    }

pub fill_marks-requires : goal.fill_marks-requires
fill_marks-requires c =
    let a = c.args in
    let h = handed a.first.now a.second.now a.merged_table.now a.merged_marks.now in
    let p = c.in_ok-test_types.ensures in
    let f = c.in_ok-test_result.ensures in
    let one = (good_first h p f).mark in
    let two = (good_second h p f).mark in
    record { marks = (λ q. omega (arith, one q, two q), λ q. omega (arith, one q, two q)); second_in_bounds = (mergeable h p f).marks_room }

pub returns : goal.returns
returns c =
    let a = c.args in
    both_written (handed a.first.now a.second.now a.merged_table.now a.merged_marks.now) c.in_ok-test_types.ensures c.in_ok-test_result.ensures _ _
    c.fill_table.ensures c.fill_marks.ensures
