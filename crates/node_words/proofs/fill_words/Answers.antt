-- One place more.
use Rattle.kind_words.specs.Listed.{filled_none, filled_more}
use Rattle.node_words.proofs.fill_words.Goals as goal

pub loop-entry-init : goal.loop-entry-init
loop-entry-init c = filled_none _ _ _

pub loop-entry-preserved : goal.loop-entry-preserved
loop-entry-preserved c = filled_more _ _ _ _ c.loop-entry.entry-index _ _ c.loop-entry.invariant c.from-n.ensures c.node_word.ensures
