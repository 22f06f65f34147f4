-- The first k rows are in chains, with the first of those that look the same in front of the buffer.
use Rattle.shown_kinds.specs.Chains.{PutInChains}
use Rattle.shown_kinds.proofs.chain_rows.Given as goal

abbrev pub invariant-loop-k : goal.invariant-loop-k
invariant-loop-k l = PutInChains l.words l.mask l.k l.chains l.firsts l.found
