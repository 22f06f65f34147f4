-- One lane more.
use Rattle.foundation.specs.Bits.{or_none, or_more}
use Rattle.layouts.proofs.starts_word.Goals as goal

pub loop-q-init : goal.loop-q-init
loop-q-init c = or_none _

pub loop-q-preserved : goal.loop-q-preserved
loop-q-preserved c = or_more _ _ _ _ c.loop-q.invariant c.up-word.ensures
