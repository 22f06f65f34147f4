-- A round begins with the rows of the rounds before it and their marks, and ends with its own.
use Rattle.std.proofs.Common.{arith}
use Rattle.rounds.specs.Between.{round_starts, round_ends}
use Rattle.rounds.specs.Marking.{lefts_marked, rights_marked}
use Rattle.rounds.proofs.Laps.{at_height}
use Rattle.rounds.proofs.all_rounds.Goals as goal

pub next_round-requires : goal.next_round-requires
next_round-requires c =
    let inv = c.loop-round.invariant in
    let masked = c.args.masked.now in
    let known = masked.prepared.ready.established in (
      round_starts _ inv.0,
      (lefts_marked _ known _ _ masked.covered inv.0 inv.1 c.mark_rows.ensures, rights_marked _ known _ _ masked.covered inv.0 inv.2 c.mark_rows-in-loop-round.ensures),
    )

pub loop-round-preserved : goal.loop-round-preserved
loop-round-preserved c =
    let inv = c.loop-round.invariant in
    let masked = c.args.masked.now in
    let known = masked.prepared.ready.established in (
      at_height _ (omega arith) (round_ends _ c.in_ok-total.ensures),
      lefts_marked _ known _ _ masked.covered inv.0 inv.1 c.mark_rows.ensures,
      rights_marked _ known _ _ masked.covered inv.0 inv.2 c.mark_rows-in-loop-round.ensures,
      omega (arith, inv.3),
      inv.4,
    )
