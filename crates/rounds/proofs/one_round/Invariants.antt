-- Invariant: the loops stand before the symbol.
use Rattle.prepared.specs.Contract.{contract_of}
use Rattle.round_pairs.specs.Steps.{At}
use Rattle.rounds.proofs.one_round.Given as goal

abbrev pub invariant-loop-number : goal.invariant-loop-number
invariant-loop-number l = At (contract_of l.prepared) l.round l.number 0 0 l.total l.slots l.rows l.words
