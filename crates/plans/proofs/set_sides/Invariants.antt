-- The table has the right sides of the first of the rules from k on.
use Rattle.plans.proofs.FirstSides.{Listed}
use Rattle.plans.proofs.set_sides.Given as goal

abbrev pub invariant-loop-k : goal.invariant-loop-k
invariant-loop-k l = Listed l.rules l.k l.sides
