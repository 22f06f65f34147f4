-- The empty forest is symbol 0 over two kinds that have input state 0 and no fact, with its own mark.
use Rattle.std.proofs.Common.{◌∙◌}
use Rattle.kind_words.specs.Marked.{first_marked, unmarked_small}
use Rattle.kind_words.specs.Ends.{leaf_kind_is}
use Rattle.symbol_kinds.proofs.leaf_kind.Goals as goal

pub marked_empty-requires : goal.marked_empty-requires
marked_empty-requires c = rw c.unmarked_kind-kind.ensures (unmarked_small _ c.args.prepared.now.ready.established.input_states.≤most 0 _ _)

pub returns : goal.returns
returns c =
    first_marked _ c.unmarked_kind-kind.ensures c.marked_empty.ensures
    ∙ leaf_kind_is _ c.args.prepared.now.ready.established
