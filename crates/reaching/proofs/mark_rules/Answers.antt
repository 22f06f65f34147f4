-- Invariant: a walk along the symbol's chain has come to rule r, and the nodes of the symbol's rules before it are marked. Measure:
-- the rules left.
use mathlib.Core.Path.{◌≡◌, subst, ◌∙◌}
use Prim.Native.Nat.{ℕ, ◌/◌}
use native.Mathlib.Omega.{arith}
use lib.ListN.{length}
use Rattle.kind_words.specs.Chains.{walk_goes, walk_ends}
use Rattle.reaching.specs.Marks.{RulesMarked, rule_marked}
use Rattle.reaching.proofs.mark_rules.Goals as goal

pub loop-r-preserved : goal.loop-r-preserved
loop-r-preserved c =
    let small = c.requires.0 c.loop-r.r (omega arith) in (
      c.loop-r.invariant.0,
      c.mark_rule.auto.marks ∙ c.loop-r.invariant.1,
      walk_goes _ _ c.requires.1 _ c.loop-r.invariant.2 (omega arith) c.rule_after-r.ensures
          (λ s own so_far next. rule_marked _ s c.loop-r.r _ c.loop-r.marks _ so_far (omega (arith, small, c.loop-r.invariant.1)) c.mark_rule.ensures next),
    )

pub returns : goal.returns
returns c =
    let rules = c.args.rules.now in
    let s = c.args.symbol.0 in
    let e : c.loop-r.r ≡ length rules / 3 = omega arith in
    subst (λ (x : ℕ). RulesMarked rules s x c.loop-r.marks) e (walk_ends _ _ c.requires.1 c.loop-r.invariant.2 s c.requires.3 c.first_rule-r.ensures)
