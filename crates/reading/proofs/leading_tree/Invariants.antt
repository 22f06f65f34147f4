-- What is read of all the numbers is what is read from the place reached on, where `due` trees are to come, at most one more than numbers
-- passed.
use Prim.Native.Nat.{◌+◌, ◌≤◌}
use Rattle.reading.proofs.Steps.{Reached}
use Rattle.reading.proofs.leading_tree.Given as goal

abbrev pub invariant-loop-at : goal.invariant-loop-at
invariant-loop-at l = (1 ≤ l.due) × (l.due ≤ l.at + 1) × Reached l.symbols l.numbers l.due l.at
