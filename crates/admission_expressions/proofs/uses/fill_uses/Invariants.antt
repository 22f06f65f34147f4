-- `fill_uses`: every entry passed is right, whatever the table held before.
use Rattle.admission_expressions.specs.Uses.{UsesKnown}
use Rattle.admission_expressions.proofs.uses.fill_uses.Given as goal

abbrev pub invariant-loop-k : goal.invariant-loop-k
invariant-loop-k l = UsesKnown l.counts l.nodes l.k l.table
