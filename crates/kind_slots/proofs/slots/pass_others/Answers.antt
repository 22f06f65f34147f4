-- One slot more is passed, or the search ends at it.
use Rattle.std.proofs.Common.{arith}
use Rattle.kind_slots.proofs.Searching.{along_few, along_more, along_ends}
use Rattle.kind_slots.proofs.slots.pass_others.Goals as goal

pub overflow_add-place : goal.overflow_add-place
overflow_add-place c = omega (arith, c.requires.1, along_few _ c.requires.0 _ _ c.loop-place.invariant)

pub loop-place-smaller : goal.loop-place-smaller
loop-place-smaller c = omega (arith, along_few _ c.requires.0 _ _ c.loop-place.invariant)

pub loop-place-preserved : goal.loop-place-preserved
loop-place-preserved c = along_more _ c.requires.0 _ _ c.loop-place.invariant c.slot_at.ensures c.entry_in.ensures c.loop-place-test.true

pub returns : goal.returns
returns c = along_ends _ c.requires.0 _ _ c.loop-place.invariant c.slot_at.ensures c.entry_in.ensures c.loop-place-test.false
