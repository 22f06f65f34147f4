-- Invariant: the symbols before this one are closed.
use Rattle.closure.specs.Sent.{contract_for}
use Rattle.closure.proofs.Verdicts.{ClosedBefore}
use Rattle.closure.proofs.closure_of.Given as goal

abbrev pub invariant-loop-number : goal.invariant-loop-number
invariant-loop-number l = ClosedBefore (contract_for l.sent) l.sent.words.now l.number
