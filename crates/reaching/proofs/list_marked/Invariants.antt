-- The marked nodes below n stand on the list.
use Rattle.reaching.specs.Listing.{Listing}
use Rattle.reaching.proofs.list_marked.Given as goal

abbrev pub invariant-loop-n : goal.invariant-loop-n
invariant-loop-n l = Listing l.marks l.initial.lists l.lists l.start l.n l.listed
