-- One assignment more.
use Rattle.std.proofs.Common.{◌∙◌, ◌<◌, ◌^◌, arith, mod-lt}
use Rattle.std.proofs.Math.Pow.{pow-lt}
use Rattle.foundation.specs.Bits.{or_none, or_more}
use Rattle.lanes.proofs.Room.{put_fits}
use Rattle.layouts.proofs.parameter_word.Goals as goal

pub loop-c-init : goal.loop-c-init
loop-c-init c = or_none _

pub up-word-requires : goal.up-word-requires
up-word-requires c =
    let p : 2 ^ c.loop-c.c < 2 ^ c.args.width = pow-lt {i = c.loop-c.c} {j = c.args.width} c.loop-c-test.true in
    put_fits _ _ _ _ c.requires.0 (omega (arith, c.up.ensures)) (mod-lt _ c.requires.1)

pub loop-c-preserved : goal.loop-c-preserved
loop-c-preserved c = or_more _ _ _ _ c.loop-c.invariant (c.up-word.ensures ∙ rw c.up.ensures)
