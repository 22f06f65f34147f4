-- Invariant: a walk along the symbol's chain has come to rule r, and the kind has the facts of the rules before it. Measure: the
-- rules left.
use Rattle.std.specs.Prelude.{◌≡◌, ◌-◌, replicate}
use Rattle.model.specs.Tables
use Rattle.lanes.specs.Layouts.{layout_of}
use Rattle.kind_words.specs.Chains.{Walk}
use Rattle.kind_words.specs.Rules.{with_rules}
use Rattle.prepared.specs.Contract.{contract_of}
use Rattle.symbol_kinds.proofs.facts_for.Given as goal

abbrev pub invariant-loop-r : goal.invariant-loop-r
invariant-loop-r l =
    let T = (contract_of l.prepared).transformation in
    (l.n ≡ Tables.rule_count T.rules)
    × Walk (λ i. (Tables.rule_at T.rules i).symbol) (Tables.rule_count T.rules)
    (λ s. l.kind ≡ with_rules (layout_of l.prepared.parts.layout) l.prepared.parts.offsets T.counts T.rules s l.words (replicate 6 0) l.r)
    l.initial.r
    l.r

abbrev pub decreases-loop-r : goal.decreases-loop-r
decreases-loop-r l = l.n - l.r
