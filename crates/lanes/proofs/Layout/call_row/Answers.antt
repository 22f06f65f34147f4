-- One state more; a lane at the states of a fact fits, as the first bits of the lanes are those of this layout.
use Rattle.std.proofs.Common.{arith}
use Rattle.foundation.specs.Bits.{or_more, or_none}
use Rattle.lanes.proofs.Room.{under, times_fits}
use Rattle.lanes.proofs.Layout.call_row.Goals as goal

pub loop-y-init : goal.loop-y-init
loop-y-init c = or_none _

pub loop-y-preserved : goal.loop-y-preserved
loop-y-preserved c = or_more _ _ _ _ c.loop-y.invariant c.spread-calls.ensures

pub spread-calls-requires : goal.spread-calls-requires
spread-calls-requires c = (grind arith, times_fits _ _ _ _ _ _ _ c.args.self.now.fits.laid (under _ _ _ c.requires.1))
