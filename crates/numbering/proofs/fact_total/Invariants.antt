-- `fact_total`: the sum is the offset of the procedure reached, and at most 64 for each procedure passed.
use Rattle.std.proofs.Common.{◌≡◌, ◌*◌, ◌≤◌}
use Rattle.model.specs.Facts.{offset}
use Rattle.numbering.proofs.fact_total.Given as goal

abbrev pub invariant-loop-count : goal.invariant-loop-count
invariant-loop-count l = (l.sum ≡ offset l.states l.counts l.count-index) × (l.sum ≤ 64 * l.count-index)
