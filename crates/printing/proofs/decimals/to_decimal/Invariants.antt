-- The number is the digits of what is left in front of those written, and what is left has no more digits than there are places. The measure
-- is the place.
use Rattle.printing.proofs.Columns.{Column}
use Rattle.printing.proofs.decimals.to_decimal.Given as goal

abbrev pub invariant-loop-rest : goal.invariant-loop-rest
invariant-loop-rest l = Column l.value l.bytes l.first l.rest

abbrev pub decreases-loop-rest : goal.decreases-loop-rest
decreases-loop-rest l = l.first
