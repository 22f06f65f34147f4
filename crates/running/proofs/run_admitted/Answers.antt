-- The buffer is refused, the document is, or neither.
use Rattle.std.proofs.Common.{sym, ◌∙◌}
use Rattle.std.proofs.lemmas.Result.{err_from_is_err_and}
use Rattle.tables.specs.Handed.{handed}
use Rattle.running.proofs.Admitting.{buffer_refused, document_refused, rows_few, taken_there, taken_read, document_run}
use Rattle.running.proofs.run_admitted.Goals as goal

pub returns-then-tuples_wrong : goal.returns-then-tuples_wrong
returns-then-tuples_wrong c = buffer_refused _ c.args.numbers.now c.args.rows.now (sym c.tuples_wrong.ensures ∙ c.if-tuples_wrong.true)

pub returns-in_err-taken : goal.returns-in_err-taken
returns-in_err-taken c =
    let end = err_from_is_err_and c.from_residual.result c.from_residual.ensures.1 in
    rw (end.1, end.2)
    (document_refused _ c.args.numbers.now c.args.rows.now (sym c.tuples_wrong.ensures ∙ c.if-tuples_wrong.false) _ c.in_err-taken.ensures.result_value)

pub slice_bounds-run_document-end : goal.slice_bounds-run_document-end
slice_bounds-run_document-end c =
    let right = sym c.tuples_wrong.ensures ∙ c.if-tuples_wrong.false in
    let read = c.in_ok-taken.ensures in
    sym (taken_there (handed c.args.contract.now).transformation c.args.numbers.now c.args.rows.now right read.result_value _ read.result_value_2)

pub run_document-requires : goal.run_document-requires
run_document-requires c =
    let right = sym c.tuples_wrong.ensures ∙ c.if-tuples_wrong.false in
    let read = c.in_ok-taken.ensures in
    (c.requires, taken_read (handed c.args.contract.now).transformation c.args.numbers.now c.args.rows.now right read.result_value _ read.result_value_2 c.requires.symbols.≤most, rows_few (handed c.args.contract.now).transformation c.args.numbers.now c.args.rows.now right)

pub returns : goal.returns
returns c =
    let right = sym c.tuples_wrong.ensures ∙ c.if-tuples_wrong.false in
    let read = c.in_ok-taken.ensures in
    document_run _ c.args.numbers.now c.args.rows.now right read.result_value _ read.result_value_2 c.run_document.ensures
