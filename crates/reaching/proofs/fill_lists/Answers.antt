-- The chains of the rules, then those of the input rows, then the lists of nodes; each keeps what was there before it.
use Rattle.reaching.specs.Listing.{listed_all}
use Rattle.reaching.proofs.fill_lists.Goals as goal

pub returns : goal.returns
returns c =
    listed_all _ _ c.args.rules.now c.args.rows.now _ _ _ _ _ _ _ c.requires.1 c.rows_from.ensures c.nodes_from.ensures c.chain_rules.ensures c.chain_rows.ensures c.list_nodes.ensures
