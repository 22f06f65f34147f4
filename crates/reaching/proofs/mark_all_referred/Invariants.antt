-- What the marked nodes from n on refer to is marked.
use Rattle.reaching.specs.Marks.{Closed}
use Rattle.reaching.proofs.mark_all_referred.Given as goal

abbrev pub invariant-loop-n : goal.invariant-loop-n
invariant-loop-n l = Closed l.counts l.nodes l.n l.initial.marks l.marks
