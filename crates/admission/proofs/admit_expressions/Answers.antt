-- `admit_expressions`: each answer is that of the first part that refuses. Nodes that are fine are good, as the search of the rules asks.
use Rattle.std.proofs.Common.{Err, refl}
use Rattle.std.proofs.lemmas.Result.{err_from_is_err_and}
use Rattle.model.specs.Admission.{nodes, rules}
use Rattle.tables.specs.Handed.{handed}
use Rattle.answers.proofs.Answered.{answer_refused, answer_passed, answer_last, answer_fine, part_passed, part_stopped}
use Rattle.admission_tables.proofs.Found.{found_refused, none_fine}
use Rattle.admission.proofs.Order.{good_nodes, small_counts, facts_over, facts_within}
use Rattle.admission.proofs.admit_expressions.Goals as goal

pub returns-in_err-admit_nodes : goal.returns-in_err-admit_nodes
unfolding nodes
returns-in_err-admit_nodes c =
    let p = err_from_is_err_and c.from_residual.result c.from_residual.ensures.1 in
    rw (p.1, p.2) (part_stopped (Err c.in_err-admit_nodes.field-0.0) _ _ _ refl c.in_err-admit_nodes.ensures)

pub first_bad_rule-requires : goal.first_bad_rule-requires
unfolding nodes
first_bad_rule-requires c =
    good_nodes (handed c.args.contract.now) c.requires.shape (part_passed _ _ c.in_ok-admit_nodes.was c.admit_nodes.ensures)

pub returns-in-Some : goal.returns-in-Some
unfolding nodes rules
returns-in-Some c =
    answer_passed _ _ _ (part_passed _ _ c.in_ok-admit_nodes.was c.admit_nodes.ensures)
    (answer_refused _ _ 7 _ (found_refused _ _ 7 _ c.in-Some.ensures))

pub fact_total-total-requires : goal.fact_total-total-requires
fact_total-total-requires c = small_counts (handed c.args.contract.now) c.requires.shape c.requires.types

pub returns-then-total-gt-MOST_FACTS : goal.returns-then-total-gt-MOST_FACTS
unfolding nodes rules
returns-then-total-gt-MOST_FACTS c =
    answer_passed _ _ _ (part_passed _ _ c.in_ok-admit_nodes.was c.admit_nodes.ensures)
    (answer_passed _ _ _ (none_fine _ _ 7 c.in_default.ensures)
    (answer_last _ 8 _ (facts_over (handed c.args.contract.now) _ c.fact_total-total.ensures c.if-total-gt-MOST_FACTS.true)))

pub returns : goal.returns
unfolding nodes rules
returns c =
    answer_passed _ _ _ (part_passed _ _ c.in_ok-admit_nodes.was c.admit_nodes.ensures)
    (answer_passed _ _ _ (none_fine _ _ 7 c.in_default.ensures)
    (answer_fine _ (facts_within (handed c.args.contract.now) _ c.fact_total-total.ensures c.if-total-gt-MOST_FACTS.false)))
