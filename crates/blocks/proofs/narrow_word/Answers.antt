-- One lane more: it fits, as the lanes are no wider than they were.
use Rattle.std.proofs.Common.{◌∙◌, arith}
use Rattle.foundation.specs.Bits.{or_more, or_none}
use Rattle.kind_words.specs.Lanes.{Sized}
use Rattle.kind_words.specs.Blocks.{narrowed_lane_lt}
use Rattle.lanes.proofs.Room.{put_fits, thin}
use Rattle.blocks.proofs.narrow_word.Goals as goal

pub loop-q-init : goal.loop-q-init
loop-q-init c = or_none _

pub up-block-requires : goal.up-block-requires
up-block-requires c =
    let args = c.args in
    let sized : Sized args.states args.narrow = record { some = c.requires.1; fit = omega (arith, c.requires.0.fit, thin args.narrow args.width args.states c.requires.3) } in
    put_fits _ _ _ _ sized (rw c.narrow_lane.ensures (narrowed_lane_lt _ _ _ _)) c.loop-q-test.true

pub loop-q-preserved : goal.loop-q-preserved
loop-q-preserved c = or_more _ _ _ _ c.loop-q.invariant (c.up-block.ensures ∙ rw c.narrow_lane.ensures)
