-- Without stay rules a kind is closed as it stands.
use Rattle.std.proofs.Common.{arith}
use Rattle.kinds.proofs.Rounds.{without_stays}
use Rattle.kinds.proofs.with_stays.Goals as goal

pub returns-then-prepared-eq0 : goal.returns-then-prepared-eq0
returns-then-prepared-eq0 c =
    let ready = c.args.prepared.now.ready in
    without_stays _ ready.established c.requires _ ready.rounds (omega arith)
