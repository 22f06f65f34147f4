-- Each refusal is the definition's; where nothing is refused the contract is established and the first numbers are a document, so
-- that the contract can be prepared and the document judged by it.
use Rattle.std.proofs.Common.{refl, sym, arith}
use Rattle.std.proofs.lemmas.Result.{err_from_is_err_and}
use Rattle.tables.specs.Handed.{handed}
use Rattle.admission.proofs.Answered.{admitted_fine}
use Rattle.reading.specs.Taken.{all_taken}
use Rattle.preparing.specs.Packing.{short, room_enough}
use Rattle.judging.specs.Steps.{LetIn, let-in, refused_contract, refused_buffer, refused_document, judged_document}
use Rattle.judging.proofs.judge.Goals as goal
use Rattle.judging.proofs.judge.Goals.{In_ok-taken}

past : (c : In_ok-taken) → LetIn (handed c.args.contract.now) c.in_ok-taken.taken c.args.numbers.now c.args.kind.now
past c =
    let-in c.in_ok-admit.ensures (omega (arith, c.if-wrong_length.false)) c.in_ok-taken.ensures.result_value c.in_ok-taken.ensures.result_value_2

pub returns-in_err-admit : goal.returns-in_err-admit
returns-in_err-admit c =
    let e = err_from_is_err_and c.from_residual.result c.from_residual.ensures.1 in
    rw (e.1, e.2) (refused_contract _ _ _ c.in_err-admit.field-0.0 c.in_err-admit.ensures)

pub returns-then-wrong_length : goal.returns-then-wrong_length
returns-then-wrong_length c = refused_buffer _ _ _ (admitted_fine _ _ refl c.in_ok-admit.ensures) (λ e. omega arith)

pub returns-in_err-taken : goal.returns-in_err-taken
returns-in_err-taken c =
    let e = err_from_is_err_and c.from_residual-in_err-taken.result c.from_residual-in_err-taken.ensures.1 in
    rw (e.1, e.2)
    (refused_document _ _ _ (admitted_fine _ _ refl c.in_ok-admit.ensures) (omega (arith, c.if-wrong_length.false)) c.in_err-taken.field-0.0 c.in_err-taken.ensures.result_value)

pub slice_bounds-document-end : goal.slice_bounds-document-end
slice_bounds-document-end c = sym (all_taken (past (goal.at.slice_bounds-document-end c).In_ok-taken).read)

pub table_length-requires : goal.table_length-requires
table_length-requires c = short _ (past (goal.at.table_length-requires c).In_ok-taken).known

pub judge_in-requires-clause-room : goal.judge_in-requires-clause-room
judge_in-requires-clause-room c =
    let known = (past (goal.at.judge_in-requires-clause-room c).In_ok-taken).known in
    (known, omega (arith, c.table_length.ensures, c.if-table_length-le512.true), omega arith)

pub judge_in-requires-clause-document : goal.judge_in-requires-clause-document
judge_in-requires-clause-document c =
    let past = past (goal.at.judge_in-requires-clause-document c).In_ok-taken in
    (past.read.leads.document, past.five)

pub returns-then-table_length-le512 : goal.returns-then-table_length-le512
returns-then-table_length-le512 c =
    judged_document _ _ _ (past (goal.at.returns-then-table_length-le512 c).In_ok-taken) c.judge_in.ensures

pub judge_in-requires-2-clause-room : goal.judge_in-requires-2-clause-room
judge_in-requires-2-clause-room c =
    let known = (past (goal.at.judge_in-requires-2-clause-room c).In_ok-taken).known in
    (known, omega (arith, room_enough _ known), omega arith)

pub judge_in-requires-2-clause-document : goal.judge_in-requires-2-clause-document
judge_in-requires-2-clause-document c =
    let past = past (goal.at.judge_in-requires-2-clause-document c).In_ok-taken in
    (past.read.leads.document, past.five)

pub returns : goal.returns
returns c = judged_document _ _ _ (past (goal.at.returns c).In_ok-taken) c.judge_in-2.ensures
