-- Invariant: a walk along the symbol's chain has come to row k, and the word has the states of the rows before it. Measure: the
-- rows left.
use Rattle.std.specs.Prelude.{◌≡◌, ◌-◌}
use Rattle.model.specs.Tables.{input_row, input_row_count}
use Rattle.kind_words.specs.Chains.{Walk}
use Rattle.masks.specs.Seen.{seen_below}
use Rattle.masks.proofs.states_seen.Given as goal

abbrev pub invariant-loop-k : goal.invariant-loop-k
invariant-loop-k l =
    (l.count ≡ input_row_count l.rows)
    × Walk (λ i. (input_row l.rows i).symbol) (input_row_count l.rows) (λ s. l.word ≡ seen_below l.rows s l.on_right l.k) l.initial.k l.k

abbrev pub decreases-loop-k : goal.decreases-loop-k
decreases-loop-k l = l.count - l.k
