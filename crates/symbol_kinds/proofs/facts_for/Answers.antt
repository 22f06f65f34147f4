-- Invariant: a walk along the symbol's chain has come to rule r, and the kind has the facts of the rules before it. Measure: the
-- rules left.
use Rattle.std.proofs.Common.{◌≡◌, refl, ◌∙◌, arith}
use Rattle.model.specs.Tables
use Rattle.prepared.specs.Contract.{contract_of}
use Rattle.kind_words.specs.Chains.{walk_starts, walk_goes, walk_ends}
use Rattle.kind_words.specs.Rules.{rules_first, rules_next}
use Rattle.prepared.proofs.Known.{rules-in}
use Rattle.symbol_kinds.proofs.facts_for.Goals as goal

pub loop-r-init : goal.loop-r-init
loop-r-init c =
    let chains = rules-in c.args.prepared.now.ready in
    let first = rw c.lists-lists.ensures at c.first_rule-r.ensures in
    (rw c.rules.ensures refl, walk_starts _ _ chains.chained c.args.symbol.0 _ c.requires first (λ t at. c.no_facts-kind.ensures ∙ rules_first _ _ _ _ t _ _ c.first_rule-r.result at))

pub rule_after-r-requires : goal.rule_after-r-requires
rule_after-r-requires c =
    rw c.lists-lists.ensures (omega (arith, c.loop-r.invariant.0, (rules-in c.args.prepared.now.ready).long))

pub loop-r-smaller : goal.loop-r-smaller
loop-r-smaller c =
    let next = (rules-in c.args.prepared.now.ready).chained.next c.loop-r.r (omega arith) (omega (arith, c.loop-r.invariant.0)) in
    omega (arith, rw c.lists-lists.ensures at c.rule_after-r.ensures, next.after)

pub loop-r-preserved : goal.loop-r-preserved
loop-r-preserved c =
    let chains = rules-in c.args.prepared.now.ready in
    let after = rw c.lists-lists.ensures at c.rule_after-r.ensures in (
      c.loop-r.invariant.0,
      walk_goes _ _ chains.chained _ c.loop-r.invariant.1 (omega arith) after
          (λ s own so_far next. rules_next _ _ _ _ s _ _ _ _ c.loop-r.r _ so_far (rw own at c.add_rule.ensures) next),
    )

pub returns : goal.returns
returns c =
    let chains = rules-in c.args.prepared.now.ready in
    let first = rw c.lists-lists.ensures at c.first_rule-r.ensures in
    let all : c.loop-r.r ≡ Tables.rule_count (contract_of c.args.prepared.now).transformation.rules = omega (arith, c.loop-r.invariant.0, c.loop-r.invariant.1.most) in
    rw all at (walk_ends _ _ chains.chained c.loop-r.invariant.1 c.args.symbol.0 c.requires first)
