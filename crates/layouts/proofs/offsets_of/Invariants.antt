-- The first p offsets stand in the table.
use Rattle.std.proofs.Common.{◌≡◌, ℕ, ◌<◌, length, get_or}
use Rattle.model.specs.Facts.{offset}
use Rattle.kind_words.specs.Sizes.{most_procedures}
use Rattle.layouts.proofs.offsets_of.Given as goal

abbrev pub invariant-loop-p : goal.invariant-loop-p
invariant-loop-p l = (length l.offsets ≡ most_procedures) × ((i : ℕ) → i < l.p → get_or l.offsets i 0 ≡ offset l.states l.counts i)
