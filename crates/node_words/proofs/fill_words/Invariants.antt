-- The words are those after so many places of the list.
use Rattle.std.proofs.Common.{◌≡◌, ℕ, List, get_or}
use Rattle.lanes.specs.Layouts.{layout_of}
use Rattle.kind_words.specs.Listed.{node_step, filled_to}
use Rattle.node_words.proofs.fill_words.Given as goal

abbrev pub invariant-loop-entry : goal.invariant-loop-entry
invariant-loop-entry l =
    l.words ≡ filled_to (λ (w : List ℕ) (n : ℕ). node_step (layout_of l.layout) l.offsets l.counts l.table l.nodes l.left l.right w n) (λ (k : ℕ). get_or l.list k 0) l.initial.words l.entry-index
