-- What a good node refers to is below it, and so has a mark; a node that is not marked changes nothing.
use mathlib.Core.Path.{◌≡◌, ap, ◌∙◌}
use Rattle.model.specs.Tables
use Rattle.model.specs.Admission.{references}
use Rattle.reaching.specs.Marks.{referred_taken, referred_kept}
use Rattle.reaching.proofs.mark_referred.Goals as goal

pub returns-then-marks-n-eq1 : goal.returns-then-marks-n-eq1
returns-then-marks-n-eq1 c =
    let args = c.args in
    let k : c.reference_count-count.result ≡ references args.counts.now (Tables.node_at args.nodes.now args.n) = c.reference_count-count.ensures ∙ ap (references args.counts.now) c.node_at-node.ensures in
    c.mark-then-marks-n-eq1.ensures ∙ rw c.mark.ensures (referred_taken _ _ _ args.n c.reference_count-count.result _ _ c.if-marks-n-eq1.true k (ap (λ (n : Tables.Node). n.first) c.node_at-node.ensures) (ap (λ (n : Tables.Node). n.second) c.node_at-node.ensures))

pub returns-else-marks-n-eq1 : goal.returns-else-marks-n-eq1
returns-else-marks-n-eq1 c = referred_kept _ _ _ c.args.n c.if-marks-n-eq1.false
