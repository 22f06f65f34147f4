-- Invariant: the mask has the facts that the nodes of the list so far call on the side.
use Rattle.std.proofs.Common.{◌∙◌}
use Rattle.std.proofs.Math.Logic.{∥∥₁_elim}
use denote.Struct.Props.{props}
use Rattle.prepared.proofs.Known.{are_nodes}
use Rattle.masks.specs.Calls.{calls_fit, called_none, called_more}
use Rattle.masks.proofs.facts_seen.Goals as goal

pub loop-n-init : goal.loop-n-init
loop-n-init c = c.no_facts-mask.ensures ∙ called_none _ _ _ _ _ _

pub node_at-node-requires : goal.node_at-node-requires
node_at-node-requires c =
    rw (c.from.ensures, c.list-n-items.ensures, c.nodes-nodes.ensures) (are_nodes c.args.prepared.now.ready _ c.requires _ (rw c.list-n-items.ensures at c.loop-n-test.true))

pub put_call-requires : goal.put_call-requires
put_call-requires c =
    let fit = ∥∥₁_elim c.args.prepared.now.ready.prepared (hlevel props) (λ made. calls_fit made c.args.symbol.0 c.requires) in
    rw (c.node_at-node.ensures, c.from.ensures, c.list-n-items.ensures, c.nodes-nodes.ensures) (fit.call _ (rw c.list-n-items.ensures at c.loop-n-test.true))

pub loop-n-preserved : goal.loop-n-preserved
loop-n-preserved c =
    let put = rw (c.node_at-node.ensures, c.from.ensures, c.list-n-items.ensures, c.nodes-nodes.ensures) at c.put_call.ensures in
    called_more _ _ _ _ _ _ c.loop-n.mask _ c.loop-n.n-index c.loop-n.invariant put
