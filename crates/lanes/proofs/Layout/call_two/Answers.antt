-- One state more.
use Rattle.std.proofs.Common.{◌∙◌, arith, zero-mul, zero-add}
use Rattle.foundation.specs.Bits.{or_more, or_none}
use Rattle.lanes.proofs.Room.{under, ones_less}
use Rattle.lanes.proofs.Layout.call_two.Goals as goal

pub loop-x-init : goal.loop-x-init
loop-x-init c = or_none _

pub call_row-calls-requires : goal.call_row-calls-requires
call_row-calls-requires c = (grind arith, under _ _ _ (ones_less _ _ c.args.self.now.fits.laid.lane))

pub loop-x-preserved : goal.loop-x-preserved
loop-x-preserved c = or_more _ _ _ _ c.loop-x.invariant (c.call_row-calls.ensures ∙ simp (zero-mul, zero-add))
