-- The sums of the words so far.
use Rattle.std.proofs.Common.{◌≡◌}
use Rattle.kind_slots.proofs.Sums.{plain_to, weighted_to}
use Rattle.kind_slots.proofs.slots.sums_of.Given as goal

abbrev pub invariant-loop-word : goal.invariant-loop-word
invariant-loop-word l = (l.plain ≡ plain_to l.kind l.word-index) × (l.weighted ≡ weighted_to l.kind l.word-index)
