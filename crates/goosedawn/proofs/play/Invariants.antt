-- The desk is in order, and the label fits.
use Rattle.std.proofs.Common.{length}
use Rattle.playing.specs.Desks.{LabelFits, InOrder}
use Rattle.goosedawn.proofs.play.Given as goal

abbrev pub invariant-loop : goal.invariant-loop
invariant-loop g l = InOrder l.desk × LabelFits l.label (length l.text)
