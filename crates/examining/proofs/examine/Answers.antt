-- Each refusal is the definition's; where nothing is refused the contract is established, so that it can be prepared, and the list is examined
-- by it.
use Rattle.std.proofs.Common.{refl, sym, ◌∙◌, arith}
use Rattle.std.proofs.lemmas.Result.{err_from_is_err_and}
use Rattle.admission.proofs.Answered.{admitted_fine, admitted_established}
use Rattle.preparing.specs.Packing.{room_enough}
use Rattle.examining.proofs.Steps.{refused_contract, refused_length, examined_list}
use Rattle.examining.proofs.examine.Goals as goal

pub returns-in_err-admit : goal.returns-in_err-admit
returns-in_err-admit c =
    let e = err_from_is_err_and c.from_residual.result c.from_residual.ensures.1 in
    rw (e.1, e.2) (refused_contract _ _ c.in_err-admit.field-0.0 c.in_err-admit.ensures, tt)

pub returns-then-tuples_wrong : goal.returns-then-tuples_wrong
returns-then-tuples_wrong c =
    (refused_length _ _ (admitted_fine _ _ refl c.in_ok-admit.ensures) (sym c.tuples_wrong.ensures ∙ c.if-tuples_wrong.true), tt)

pub prepare-masked-requires : goal.prepare-masked-requires
prepare-masked-requires c =
    let known = admitted_established _ _ refl c.in_ok-admit.ensures in
    (known, omega (arith, room_enough _ known), omega arith)

pub returns : goal.returns
returns c =
    let same = c.prepare-masked.ensures.contract in
    let fine = admitted_fine _ _ refl c.in_ok-admit.ensures in
    (examined_list _ _ fine (sym c.tuples_wrong.ensures ∙ c.if-tuples_wrong.false) _ same c.examine_prepared.ensures.0, c.examine_prepared.ensures.1)
