-- One word more, and all five.
use Rattle.std.proofs.Common.{◌<◌, arith, get_or-take}
use Rattle.kind_slots.proofs.Sums.{sums_none, sums_more, sums_all}
use Rattle.kind_slots.proofs.slots.sums_of.Goals as goal

pub loop-word-init : goal.loop-word-init
loop-word-init c = sums_none _

pub loop-word-preserved : goal.loop-word-preserved
loop-word-preserved c =
    let inside : c.loop-word.word-index < 5 = omega arith in
    sums_more _ _ _ _ _ c.loop-word.invariant.0 c.loop-word.invariant.1 (get_or-take 5 _ _ 0 inside)

pub returns : goal.returns
returns c = sums_all _ _ _ _ (omega arith) c.loop-word.invariant.0 c.loop-word.invariant.1
