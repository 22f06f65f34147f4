-- One bit more.
use Rattle.std.proofs.Common.{◌∙◌, arith}
use Rattle.foundation.specs.Bits.{or_more, or_none}
use Rattle.kind_words.specs.Blocks.{one_at}
use Rattle.blocks.proofs.narrow_lane.Goals as goal

pub loop-c-init : goal.loop-c-init
loop-c-init c = or_none _

pub up-bits-requires : goal.up-bits-requires
up-bits-requires c = (omega arith, rw c.lane.ensures (one_at _ c.loop-c.c 64 (omega arith)).0)

pub loop-c-preserved : goal.loop-c-preserved
loop-c-preserved c = or_more _ _ _ _ c.loop-c.invariant (c.up-bits.ensures ∙ rw c.lane.ensures)
