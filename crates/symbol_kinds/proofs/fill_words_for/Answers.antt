-- A prepared contract has a list of nodes for each symbol.
use Rattle.std.proofs.Common.{arith}
use Rattle.prepared.proofs.Known.{nodes_fit, are_nodes}
use Rattle.symbol_kinds.proofs.fill_words_for.Goals as goal

pub fill_words-requires : goal.fill_words-requires
fill_words-requires c =
    let ready = c.args.prepared.now.ready in
    rw (c.counts.ensures, c.output_table.ensures, c.nodes.ensures, c.list.ensures)
    (nodes_fit ready, are_nodes ready c.args.symbol.0 c.requires.0, omega (arith, ready.established.nodes.few, c.requires.1))
