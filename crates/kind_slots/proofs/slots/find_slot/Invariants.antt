-- The slots before this place do not end the search. Measure: how many of the 1,024 are left, of which one is not occupied.
use Rattle.std.proofs.Common.{◌+◌, ◌-◌, ◌%◌, get_or}
use Rattle.kind_slots.specs.Slots.{first_slot}
use Rattle.kind_slots.proofs.Searching.{Reached}
use Rattle.kind_slots.proofs.slots.find_slot.Given as goal

abbrev pub invariant-search : goal.invariant-search
invariant-search l = Reached l.words l.slots l.kind l.place (get_or l.slots (l.place % 1024) 0)

abbrev pub decreases-search : goal.decreases-search
decreases-search l = first_slot l.kind + 1024 - l.place
