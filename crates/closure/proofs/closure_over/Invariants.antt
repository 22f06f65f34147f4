-- Invariant: nothing is missing over the left kinds before this one.
use Rattle.closure.specs.Sent.{contract_for}
use Rattle.closure.proofs.Openings.{HeldTo}
use Rattle.closure.proofs.closure_over.Given as goal

abbrev pub invariant-loop-left : goal.invariant-loop-left
invariant-loop-left l = HeldTo (contract_for l.sent) l.sent.words.now l.symbol.0 l.lefts l.rights l.left-index
