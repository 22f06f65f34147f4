-- `fill_uses`: one more entry is `uses_more`.
use Rattle.std.proofs.Common.{arith}
use Rattle.admission_expressions.proofs.NodeUses.{uses_more}
use Rattle.admission_expressions.proofs.uses.fill_uses.Goals as goal

pub loop-k-preserved : goal.loop-k-preserved
loop-k-preserved c = let here = c.loop-k in uses_more _ _ here.table here.k _ _ c.requires.0 (omega arith) (omega arith) here.invariant c.node_at.ensures c.uses_of.ensures
