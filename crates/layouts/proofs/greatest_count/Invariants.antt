-- The greatest of the counts so far.
use Rattle.std.proofs.Common.{ℕ, ◌≤◌, ◌<◌}
use Rattle.model.specs.Tables.{count_of}
use Rattle.layouts.proofs.greatest_count.Given as goal

abbrev pub invariant-loop-count : goal.invariant-loop-count
invariant-loop-count l = (l.greatest ≤ 2) × ((i : ℕ) → i < l.count-index → count_of l.counts i ≤ l.greatest)
