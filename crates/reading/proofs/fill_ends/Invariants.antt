-- The entries of the places from i on are right.
use mathlib.Core.Path.{◌≡◌}
use lib.ListN.{length}
use Rattle.reading.specs.Ends.{EndsFrom}
use Rattle.reading.proofs.fill_ends.Given as goal

abbrev pub invariant-loop-i : goal.invariant-loop-i
invariant-loop-i l = (length l.ends ≡ length l.initial.ends) × EndsFrom l.i l.numbers l.ends
