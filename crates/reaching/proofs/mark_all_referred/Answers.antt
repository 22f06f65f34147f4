-- One node more.
use Rattle.std.proofs.Common.{◌≡◌, ℕ, suc, ◌-◌, subst, arith}
use Rattle.reaching.specs.Marks.{Closed, closed_more}
use Rattle.reaching.proofs.mark_all_referred.Goals as goal

pub loop-n-preserved : goal.loop-n-preserved
loop-n-preserved c =
    let args = c.args in
    let e : c.loop-n.n ≡ suc (c.loop-n.n - 1) = omega arith in
    closed_more c.requires.0 _ (omega arith) _ _ _ (subst (λ (x : ℕ). Closed args.counts.now args.nodes.now x args.marks.now c.loop-n.marks) e c.loop-n.invariant) c.mark_referred.ensures
