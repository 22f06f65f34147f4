-- Where the round stops, the list ends: there is room for the rows that stand.
use Rattle.std.proofs.Common.{rules, arith}
use Rattle.round_pairs.proofs.Visits.{at_room, at_stood}
use Rattle.rounds.proofs.Ending.{round_told}
use Rattle.rounds.proofs.next_round.Goals as goal

pub returns : goal.returns
returns c =
    let at = c.requires.0 in
    round_told _ _ _ _ _ _ _ (omega (arith, at.standing.counted, (at_stood at).0, (at_room at).used)) c.one_round-step.result c.map_err.result c.map_err.ensures.cases (λ stop why said. search rules) c.one_round-step.ensures
