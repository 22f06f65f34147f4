-- Invariant: nothing is missing over the right kinds before this one.
use Rattle.closure.specs.Held.{HeldRight}
use Rattle.closure.specs.Sent.{contract_for}
use Rattle.closure.proofs.left_closure.Given as goal

abbrev pub invariant-loop-number : goal.invariant-loop-number
invariant-loop-number l = HeldRight (contract_for l.sent) l.sent.words.now l.symbol.0 l.left.0 l.rights l.number-index
