-- Invariant: the buffers hold the rows of the rounds up to the height and the slots are theirs, those of the round before have their marks, and each round has
-- added a row. Measure: how many rows there may be above those.
use Prim.Native.Nat.{◌-◌, ◌≤◌}
use mathlib.Core.Path.{◌≡◌}
use Rattle.prepared.specs.Contract.{contract_of}
use Rattle.round_pairs.specs.Steps.{LeftsMarked, RightsMarked}
use Rattle.rounds.specs.Between.{Between}
use Rattle.rounds.proofs.all_rounds.Given as goal

abbrev pub invariant-loop-round : goal.invariant-loop-round
invariant-loop-round l =
    let C = contract_of l.prepared in
    Between C l.round.limit l.round.height l.round.before l.round.stood l.slots l.rows l.words × LeftsMarked C l.round.before l.lefts × RightsMarked C l.round.before l.rights
    × (l.round.height ≤ l.round.before) × (l.round.limit ≡ l.limit)

abbrev pub decreases-loop-round : goal.decreases-loop-round
decreases-loop-round l = l.limit - l.round.before
