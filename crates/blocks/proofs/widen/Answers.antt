-- One lane more: it fits, as it is no wider than it may be.
use Rattle.std.proofs.Common.{◌∙◌}
use Rattle.foundation.specs.Bits.{or_more, or_none}
use Rattle.lanes.proofs.Room.{put_fits, thin_lt}
use Rattle.blocks.proofs.widen.Goals as goal

pub loop-q-init : goal.loop-q-init
loop-q-init c = or_none _

pub up-wide-requires : goal.up-wide-requires
up-wide-requires c = put_fits _ _ _ _ c.requires.0 (rw c.lane.ensures (thin_lt _ _ _ _ _ c.requires.2 c.lane_of_ones-ones.ensures)) c.loop-q-test.true

pub loop-q-preserved : goal.loop-q-preserved
loop-q-preserved c = or_more _ _ _ _ c.loop-q.invariant (c.up-wide.ensures ∙ rw (c.lane.ensures, c.lane_of_ones-ones.ensures))
