-- Invariant: a walk along the symbol's chain has come to row r, and the word has the states of the rows before it. Measure: the
-- rows left.
use Rattle.std.specs.Prelude.{◌≡◌, ◌-◌}
use Rattle.model.specs.Tables
use Rattle.kind_words.specs.Chains.{Walk}
use Rattle.kind_words.specs.States.{row_states}
use Rattle.prepared.specs.Contract.{contract_of}
use Rattle.symbol_kinds.proofs.states_for.Given as goal

abbrev pub invariant-loop-r : goal.invariant-loop-r
invariant-loop-r l =
    let rows = (contract_of l.prepared).input.rows in
    (l.n ≡ Tables.input_row_count rows)
    × Walk (λ i. (Tables.input_row rows i).symbol) (Tables.input_row_count rows) (λ s. l.states ≡ row_states rows s l.left l.right l.r) l.initial.r l.r

abbrev pub decreases-loop-r : goal.decreases-loop-r
decreases-loop-r l = l.n - l.r
