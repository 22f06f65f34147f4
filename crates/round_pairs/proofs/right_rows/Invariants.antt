-- Invariant: the loops stand at a right row.
use Rattle.prepared.specs.Contract.{contract_of}
use Rattle.round_pairs.specs.Steps.{At}
use Rattle.round_pairs.proofs.right_rows.Given as goal

abbrev pub invariant-loop-right : goal.invariant-loop-right
invariant-loop-right l = At (contract_of l.prepared) l.round l.place.symbol.0 l.place.left l.right l.total l.slots l.rows l.words
