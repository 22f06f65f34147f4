-- The slots before this place have some of the bits. Measure: how many of the 1,024 are left.
use Rattle.std.proofs.Common.{◌+◌, ◌-◌}
use Rattle.kind_slots.proofs.Searching.{Along}
use Rattle.kind_slots.proofs.slots.pass_others.Given as goal

abbrev pub invariant-loop-place : goal.invariant-loop-place
invariant-loop-place l = Along l.slots l.from l.others l.place

abbrev pub decreases-loop-place : goal.decreases-loop-place
decreases-loop-place l = l.from + 1024 - l.place
