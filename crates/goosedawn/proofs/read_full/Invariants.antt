-- No more was read than there is room for. The measure is the room that is left.
use Rattle.std.proofs.Common.{◌≤◌, ◌-◌, length}
use Rattle.goosedawn.proofs.read_full.Given as goal

abbrev pub invariant-loop-got : goal.invariant-loop-got
invariant-loop-got g l = l.got ≤ length l.buffer

abbrev pub decreases-loop-got : goal.decreases-loop-got
decreases-loop-got g l = length l.buffer - l.got
