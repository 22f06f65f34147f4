-- Invariant: the masks of the symbols below s show what those can see.
use Rattle.std.proofs.Common.{arith}
use Rattle.prepared.specs.Contract.{contract_of}
use Rattle.masks.specs.Seen.{see_more}
use Rattle.masks.proofs.side_masks.Goals as goal

pub loop-s-preserved : goal.loop-s-preserved
loop-s-preserved c =
    let few = c.args.prepared.now.ready.established.symbols.≤most in
    let stored = rw c.entry_of.ensures at c.store_mask.ensures in
    rw stored
    (see_more (contract_of c.args.prepared.now) c.args.on_right c.loop-s.s c.loop-s.masks _ (omega (arith, few)) c.loop-s.invariant (rw c.entry_of.ensures at c.mask_of-mask.ensures))

pub returns : goal.returns
returns c = record { sees = λ s h k. c.loop-s.invariant.sees s h (omega arith) }
