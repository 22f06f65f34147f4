-- After the last symbol the loops stand behind it.
use Rattle.std.proofs.Common.{arith}
use Rattle.rounds.proofs.Laps.{at_symbol}
use Rattle.rounds.proofs.one_round.Goals as goal

pub returns : goal.returns
returns c = at_symbol _ (omega (arith, c.args.prepared.now.ready.established.symbols.least≤)) c.loop-number.invariant
