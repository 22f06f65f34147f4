-- One byte more.
use Rattle.std.proofs.Common.{arith}
use Rattle.printing.proofs.Texts.{appends_more}
use Rattle.printing.proofs.pages.Page.append.Goals as goal

pub loop-b-preserved : goal.loop-b-preserved
loop-b-preserved c = appends_more _ _ (omega arith) c.loop-b.invariant c.push.ensures
