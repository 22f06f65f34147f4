-- Before the first row no chain has one.
use Rattle.shown_kinds.proofs.Firsts.{none_put}
use Rattle.shown_kinds.proofs.chain_rows.Goals as goal

pub loop-k-init : goal.loop-k-init
loop-k-init c = none_put _ _ _ _ c.requires.2 c.clear_fronts.ensures
