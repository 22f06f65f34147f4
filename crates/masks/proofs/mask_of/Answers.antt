-- The states, the marks and the facts together.
use Rattle.std.proofs.Math.Logic.{∥∥₁_elim}
use Rattle.masks.specs.Seen.{sees-prop}
use Rattle.masks.specs.Calls.{mask_sees}
use Rattle.masks.proofs.mask_of.Goals as goal

pub returns : goal.returns
returns c =
    rw (c.facts_seen-mask.ensures, c.states_seen.ensures, c.marks_seen.ensures)
    (∥∥₁_elim c.args.prepared.now.ready.prepared (sees-prop _ _ _ _) (λ made. mask_sees made c.args.symbol.0 c.requires c.args.on_right))
