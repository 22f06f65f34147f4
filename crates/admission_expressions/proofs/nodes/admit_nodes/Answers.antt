-- `admit_nodes` gives the fault of the lowest bad node.
use Rattle.std.proofs.Common.{◌≡◌, ◌/◌, Err, refl, length, arith, below_more}
use Rattle.std.proofs.lemmas.Result.{err_from_is_err_and}
use Rattle.model.specs.Admission.{lowest_node_fault}
use Rattle.model.proofs.Laws.Answers.{refuse_lowest_none, refuse_lowest_at}
use Rattle.answers.proofs.Answered.{answer_fine, part_passed, part_refused}
use Rattle.admission_expressions.proofs.nodes.admit_nodes.Goals as goal

pub returns-in_err-admit_node : goal.returns-in_err-admit_node
unfolding lowest_node_fault
returns-in_err-admit_node c =
    let here = c.loop-k in
    let p = err_from_is_err_and c.from_residual.result c.from_residual.ensures.1 in
    rw (p.1, p.2)
    (part_refused (Err c.in_err-admit_node.field-0.0) _ _ _ refl (rw c.node_at.ensures at c.in_err-admit_node.ensures)
    (λ number place e. refuse_lowest_at _ _ here.k number place (omega arith) here.invariant e))

pub loop-k-preserved : goal.loop-k-preserved
loop-k-preserved c =
    below_more _ _ c.loop-k.invariant (part_passed _ _ c.in_ok-admit_node.was (rw c.node_at.ensures at c.admit_node.ensures))

pub returns : goal.returns
unfolding lowest_node_fault
returns c =
    let end : c.loop-k.k ≡ length c.args.nodes.now / 5 = omega arith in
    answer_fine _ (refuse_lowest_none _ _ (rw end at c.loop-k.invariant))
