-- One lane more; it fits at its state, which is one of those of the table.
use Rattle.std.proofs.Common.{◌+◌, arith}
use Rattle.foundation.specs.Bits.{or_more, or_none}
use Rattle.lanes.proofs.Room.{under, put_fits}
use Rattle.lanes.proofs.symbol_row.Goals as goal

pub loop-y-init : goal.loop-y-init
loop-y-init c = or_none _

pub loop-y-preserved : goal.loop-y-preserved
loop-y-preserved c = or_more _ _ _ _ c.loop-y.invariant (rw (← c.output_state_at-state.ensures) c.at_state-word.ensures)

pub at_state-word-requires : goal.at_state-word-requires
at_state-word-requires c =
    let inside = c.requires.1.inside in
    let below = c.requires.1.states (c.args.start + c.loop-y.y) (omega (arith, inside)) in
    put_fits _ _ _ _ c.requires.0 (under _ _ _ c.requires.2) (rw c.output_state_at-state.ensures below)
