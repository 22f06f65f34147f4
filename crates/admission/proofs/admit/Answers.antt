-- `admit`: admission is its three stages one after another (`stages`), so a stage that refuses gives the answer, and one that
-- admits is fine, as the next one asks.
use Rattle.std.proofs.Common.{Err, refl, sym, ◌∙◌}
use Rattle.std.proofs.lemmas.Result.{err_from_is_err_and}
use Rattle.tables.specs.Handed.{handed}
use Rattle.answers.proofs.Answered.{answer_passed, part_passed, part_stopped}
use Rattle.admission.proofs.Order.{stages}
use Rattle.admission.proofs.admit.Goals as goal

pub returns-in_err-admit_shape : goal.returns-in_err-admit_shape
returns-in_err-admit_shape c =
    let p = err_from_is_err_and c.from_residual.result c.from_residual.ensures.1 in
    rw (p.1, p.2)
    (part_stopped (Err c.in_err-admit_shape.field-0.0) _ _ _ refl c.in_err-admit_shape.ensures ∙ sym (stages (handed c.args.contract.now)))

pub admit_types-requires : goal.admit_types-requires
admit_types-requires c = part_passed _ _ c.in_ok-admit_shape.was c.admit_shape.ensures

pub returns-in_err-admit_types : goal.returns-in_err-admit_types
returns-in_err-admit_types c =
    let p = err_from_is_err_and c.from_residual-in_err-admit_types.result c.from_residual-in_err-admit_types.ensures.1 in
    rw (p.1, p.2)
    (answer_passed _ _ _ (part_passed _ _ c.in_ok-admit_shape.was c.admit_shape.ensures)
    (part_stopped (Err c.in_err-admit_types.field-0.0) _ _ _ refl c.in_err-admit_types.ensures)
    ∙ sym (stages (handed c.args.contract.now)))

pub admit_expressions-requires : goal.admit_expressions-requires
admit_expressions-requires c =
    record {
      shape = part_passed _ _ c.in_ok-admit_shape.was c.admit_shape.ensures;
      types = part_passed _ _ c.in_ok-admit_types.was c.admit_types.ensures;
    }

pub returns : goal.returns
returns c =
    answer_passed _ _ _ (part_passed _ _ c.in_ok-admit_shape.was c.admit_shape.ensures)
    (answer_passed _ _ _ (part_passed _ _ c.in_ok-admit_types.was c.admit_types.ensures) c.admit_expressions.ensures)
    ∙ sym (stages (handed c.args.contract.now))
