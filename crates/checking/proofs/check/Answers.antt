-- Each refusal is the definition's; where nothing is refused the contract is established and the buffers have room.
use Rattle.std.proofs.Common.{refl}
use Rattle.std.proofs.lemmas.Result.{err_from_is_err_and}
use Rattle.admission.proofs.Answered.{admitted_fine}
use Rattle.tables.specs.Handed.{handed}
use Rattle.checking.proofs.Answering.{tested, refused_contract, refused_size, checked}
use Rattle.checking.proofs.check.Goals as goal

pub returns-in_err-admit : goal.returns-in_err-admit
returns-in_err-admit c =
    let e = err_from_is_err_and c.from_residual.result c.from_residual.ensures.1 in
    rw (e.1, e.2) (refused_contract _ _ _ _ c.in_err-admit.field-0.0 c.in_err-admit.ensures)

pub returns-in-Some : goal.returns-in-Some
returns-in-Some c =
    let C = handed c.args.contract.now in
    refused_size C _ _ _ (admitted_fine _ C refl c.in_ok-admit.ensures) c.in-Some.place (c.in-Some.ensures C)

pub check_admitted-requires : goal.check_admitted-requires
check_admitted-requires c =
    let C = handed c.args.contract.now in
    let t = tested C c.args.limit c.args.rows.now c.args.words.now (admitted_fine _ C refl c.in_ok-admit.ensures) (c.in_default.ensures C) in
    (t.known, t.room, t.some)

pub returns : goal.returns
returns c =
    let C = handed c.args.contract.now in
    checked _ _ _ _ (tested C _ _ _ (admitted_fine _ C refl c.in_ok-admit.ensures) (c.in_default.ensures C)) c.check_admitted.ensures
