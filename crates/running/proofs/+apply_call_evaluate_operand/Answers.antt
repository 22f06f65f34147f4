-- What each answer is, the lemmas of Evaluating and Calling say, one for each place at which the code returns.
use mathlib.Core.Path.{refl, sym, ◌∙◌}
use native.Mathlib.Omega.{arith}
use Rattle.std.proofs.lemmas.Result.{err_from_is_err_and}
use Rattle.plans.proofs.Limits.{most_bounded}
use Rattle.running.proofs.Evaluating.{fewer, operand_none, operand_falls, operand_evaluable, operand_evaluated, parameter_evaluated, operable, first_stopped, first_grown, second_stopped, second_grown, node_evaluated}
use Rattle.running.proofs.Calling.{row_applied, left-inside, child_callable, call_applied, too_many, side_evaluable, no_rule, called}
use Rattle.running.proofs.+apply_call_evaluate_operand.Goals as goal

pub apply-returns-then-here-eq1 : goal.apply-returns-then-here-eq1
apply-returns-then-here-eq1 t c = λ asked. row_applied asked c.node-here.ensures _ _ _ _ c.if-here-eq1.true c.add_row.ensures

pub apply-child_place-child-requires : goal.apply-child_place-child-requires
apply-child_place-child-requires t c =
    λ moving. omega (arith, left-inside c.requires.operable_in c.node-here.ensures c.if-here-eq1.false moving, c.requires.operable_in.known.text.read.few)

pub apply-call-requires : goal.apply-call-requires
apply-call-requires t c =
    (omega (arith, c.decreases), (child_callable c.requires.operable_in c.node-here.ensures c.if-here-eq1.false c.child_place-child.ensures, c.requires.rows_len_bound))

pub apply-returns : goal.apply-returns
apply-returns t c = λ asked. call_applied asked c.node-here.ensures c.if-here-eq1.false c.child_place-child.ensures _ _ _ _ c.call.ensures

pub call-returns-then-most-tally : goal.call-returns-then-most-tally
call-returns-then-most-tally t c = λ asked. too_many asked c.most_calls-most.ensures _ _ (omega arith)

pub call-returns-in_default : goal.call-returns-in_default
call-returns-in_default t c = λ asked. no_rule asked c.symbol_at.ensures (λ x e. c.in_default.not-Some x (c.sought_side-side.ensures ∙ e)) _ _ (omega (arith, c.most_calls-most.ensures)) refl

pub call-evaluate-requires : goal.call-evaluate-requires
call-evaluate-requires t c =
    let able = side_evaluable c.requires.callable_in c.symbol_at.ensures (sym c.sought_side-side.ensures ∙ c.in-Some.is) in
    let bounded = most_bounded c.args.plan.now in
    (omega (arith, c.decreases, c.most_calls-most.ensures, able.able.there, c.requires.callable_in.known.tables.nodes_few), (able, c.requires.rows_len_bound))

pub call-returns : goal.call-returns
call-returns t c = λ asked. called asked c.symbol_at.ensures (sym c.sought_side-side.ensures ∙ c.in-Some.is) _ (omega (arith, c.most_calls-most.ensures)) _ _ _ c.evaluate.ensures

pub evaluate-returns-then-here-eq0 : goal.evaluate-returns-then-here-eq0
evaluate-returns-then-here-eq0 t c = λ asked. parameter_evaluated asked c.node-here.ensures c.if-here-eq0.true _ _ c.parameter_row.ensures

pub evaluate-operand-requires : goal.evaluate-operand-requires
evaluate-operand-requires t c =
    (omega (arith, c.decreases), (operable c.requires.evaluable_in c.node-here.ensures c.if-here-eq0.false, (record { least≤ = omega arith; ≤most = omega arith }, c.requires.rows_len_bound)))

pub evaluate-returns-in_err-left : goal.evaluate-returns-in_err-left
evaluate-returns-in_err-left t c =
    let end = err_from_is_err_and c.from_residual.result c.from_residual.ensures.1 in
    rw (end.1, end.2) (λ asked. first_stopped asked c.node-here.ensures c.if-here-eq0.false _ _ _ _ c.operand.ensures c.in_err-left.was)

pub evaluate-operand-requires-2 : goal.evaluate-operand-requires-2
evaluate-operand-requires-2 t c =
    let asked = c.requires.evaluable_in in
    let grown = first_grown asked c.node-here.ensures c.if-here-eq0.false _ _ _ _ c.operand.ensures c.in_ok-left.was c.operand.auto.rows in
    (omega (arith, c.decreases), (operable asked c.node-here.ensures c.if-here-eq0.false, (record { least≤ = omega arith; ≤most = omega arith }, fewer c.operand.auto.rows c.requires.rows_len_bound)))

pub evaluate-returns-in_err-right : goal.evaluate-returns-in_err-right
evaluate-returns-in_err-right t c =
    let end = err_from_is_err_and c.from_residual-in_err-right.result c.from_residual-in_err-right.ensures.1 in
    rw (end.1, end.2) (λ asked. second_stopped asked c.node-here.ensures c.if-here-eq0.false _ _ _ _ c.operand.ensures c.in_ok-left.was c.operand.auto.rows _ _ c.operand-2.ensures c.in_err-right.was)

pub evaluate-apply-requires : goal.evaluate-apply-requires
evaluate-apply-requires t c =
    let asked = c.requires.evaluable_in in
    let grown = first_grown asked c.node-here.ensures c.if-here-eq0.false _ _ _ _ c.operand.ensures c.in_ok-left.was c.operand.auto.rows in
    let more = second_grown asked c.node-here.ensures c.if-here-eq0.false _ _ _ _ c.operand.ensures c.in_ok-left.was c.operand.auto.rows _ _ c.operand-2.ensures c.in_ok-right.was in
    (omega (arith, c.decreases), (operable asked c.node-here.ensures c.if-here-eq0.false, fewer (c.operand-2.auto.rows ∙ c.operand.auto.rows) c.requires.rows_len_bound))

pub evaluate-returns : goal.evaluate-returns
evaluate-returns t c =
    λ asked. node_evaluated asked c.node-here.ensures c.if-here-eq0.false _ _ _ _ c.operand.ensures c.in_ok-left.was c.operand.auto.rows _ _ c.operand-2.ensures c.in_ok-right.was
    (c.operand-2.auto.rows ∙ c.operand.auto.rows) _ _ c.apply.ensures

pub operand-returns-then-operand_count-number : goal.operand-returns-then-operand_count-number
operand-returns-then-operand_count-number t c = λ asked. operand_none asked c.node-here.ensures c.requires.between.0 c.operand_count.ensures c.if-operand_count-number.true _ _

pub operand-evaluate-requires : goal.operand-evaluate-requires
operand-evaluate-requires t c =
    let able = operand_evaluable c.requires.operable_in c.node-here.ensures c.requires.between.0 c.operand_count.ensures c.if-operand_count-number.false c.operand_node-smaller.ensures in
    let smaller = operand_falls c.requires.operable_in c.node-here.ensures c.requires.between.0 c.operand_count.ensures c.if-operand_count-number.false c.operand_node-smaller.ensures in
    (omega (arith, c.decreases), (able, c.requires.between.1))

pub operand-returns : goal.operand-returns
operand-returns t c =
    λ asked. operand_evaluated asked c.node-here.ensures c.requires.between.0 c.operand_count.ensures c.if-operand_count-number.false c.operand_node-smaller.ensures _ _ _ _ c.evaluate.ensures
