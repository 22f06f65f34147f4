-- Invariant: the loops stand at a left row.
use Rattle.prepared.specs.Contract.{contract_of}
use Rattle.round_pairs.specs.Steps.{At}
use Rattle.round_pairs.proofs.left_rows.Given as goal

abbrev pub invariant-loop-left : goal.invariant-loop-left
invariant-loop-left l = At (contract_of l.prepared) l.round l.place.symbol.0 l.left 0 l.total l.slots l.rows l.words
