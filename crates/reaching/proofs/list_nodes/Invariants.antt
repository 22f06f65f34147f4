-- The lists of the symbols below s.
use Rattle.reaching.specs.Listing.{ListedTo}
use Rattle.reaching.proofs.list_nodes.Given as goal

abbrev pub invariant-loop-s : goal.invariant-loop-s
invariant-loop-s l = ListedTo l.counts l.nodes l.rules l.start l.s l.end l.initial.lists l.lists
