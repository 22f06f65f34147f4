-- One lane more.
use Rattle.std.proofs.Common.{◌∙◌}
use Rattle.foundation.specs.Bits.{or_more, or_none}
use Rattle.lanes.proofs.Layout.symbol_word.Goals as goal

pub loop-x-init : goal.loop-x-init
loop-x-init c = or_none _

pub loop-x-preserved : goal.loop-x-preserved
loop-x-preserved c = or_more _ _ _ _ c.loop-x.invariant (c.symbol_row-word.ensures ∙ rw (c.lane-lane.ensures, c.args.self.now.fits.laid.lane))
