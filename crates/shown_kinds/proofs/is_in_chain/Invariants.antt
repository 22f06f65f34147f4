-- A row below the entry looks so exactly if one below `next` does, and `next` is an entry of the chain. Measure: `next`, as the row behind a
-- row comes before it.
use Rattle.shown_kinds.proofs.Latest.{Reached}
use Rattle.shown_kinds.proofs.is_in_chain.Given as goal

abbrev pub invariant-loop-k : goal.invariant-loop-k
invariant-loop-k l = Reached l.words l.mask l.seen l.entry l.next

abbrev pub decreases-loop-k : goal.decreases-loop-k
decreases-loop-k l = l.next
