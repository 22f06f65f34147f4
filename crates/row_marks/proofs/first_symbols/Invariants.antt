-- A mark that is missing below `number` means an earlier row that agrees.
use mathlib.Core.Path.{◌≡◌}
use mathlib.Core.Bool.{false}
use Prim.Native.Nat.{ℕ, ◌≤◌, ◌<◌}
use Rattle.foundation.specs.Words.{bit}
use Rattle.kind_slots.specs.Stored.{padded_kind}
use Rattle.row_marks.specs.Marks.{SomeEarlier}
use Rattle.row_marks.proofs.first_symbols.Given as goal

abbrev pub invariant-loop-number : goal.invariant-loop-number
invariant-loop-number l =
    (l.kind ≡ padded_kind l.words l.j) × ((s : ℕ) → 1 ≤ s → s < l.number → bit l.marks s ≡ false → SomeEarlier l.words (padded_kind l.masks s) l.j)
