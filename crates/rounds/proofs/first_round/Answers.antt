-- What the offer comes to, by the law of round 0.
use Rattle.std.proofs.Common.{rules}
use Rattle.rounds.specs.Starting.{begun}
use Rattle.rounds.proofs.Ending.{first_told}
use Rattle.rounds.proofs.first_round.Goals as goal

pub returns : goal.returns
returns c =
    let ready = c.args.prepared.now.ready in
    first_told _ _ _ _ _ _ c.requires.2 c.offer.result c.map_err.result c.map_err.ensures.cases (λ stop why said. search rules)
    (begun _ ready.established _ ready.verdicts c.requires.0 c.requires.1 _ c.empty_of-kind.ensures c.offer.result _ _ _ c.offer.ensures)
