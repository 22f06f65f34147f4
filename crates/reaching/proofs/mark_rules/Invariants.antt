-- Invariant: a walk along the symbol's chain has come to rule r, and the nodes of the symbol's rules before it are marked. Measure:
-- the rules left.
use mathlib.Core.Path.{◌≡◌}
use Prim.Native.Nat.{◌-◌, ◌/◌}
use lib.ListN.{length}
use Rattle.model.specs.Tables
use Rattle.kind_words.specs.Chains.{Walk}
use Rattle.reaching.specs.Marks.{RulesMarked}
use Rattle.reaching.proofs.mark_rules.Given as goal

abbrev pub invariant-loop-r : goal.invariant-loop-r
invariant-loop-r l =
    (l.n ≡ length l.rules / 3) × (length l.marks ≡ length l.initial.marks)
    × Walk (λ i. (Tables.rule_at l.rules i).symbol) (Tables.rule_count l.rules) (λ s. RulesMarked l.rules s l.r l.marks) l.initial.r l.r

abbrev pub decreases-loop-r : goal.decreases-loop-r
decreases-loop-r l = l.n - l.r
