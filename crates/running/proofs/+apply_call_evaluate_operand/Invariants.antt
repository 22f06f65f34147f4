-- The measure is how many calls are left paired with the node number, as one number in which a call counts more than any node: calling
-- falls by a call, the evaluation of an operand by the node, and no calls are made undone meanwhile. No run makes more than 65,536 calls,
-- and there are no more than 256 nodes.
use Rattle.std.proofs.Common.{ℕ, ◌+◌, ◌*◌, ◌-◌}
use Rattle.running.specs.declared.Tally.{Tally}
use Rattle.running.proofs.+apply_call_evaluate_operand.Given as goal

abbrev left_of : Tally → ℕ
left_of tally = (65536 - tally.calls) * 1024

abbrev pub decreases-apply : goal.decreases-apply
decreases-apply l = left_of l.tally + 1

abbrev pub decreases-call : goal.decreases-call
decreases-call l = left_of l.tally

abbrev pub decreases-evaluate : goal.decreases-evaluate
decreases-evaluate l = left_of l.tally + 2 * l.node + 3

abbrev pub decreases-operand : goal.decreases-operand
decreases-operand l = left_of l.tally + 2 * l.node + 2
