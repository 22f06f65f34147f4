-- The rule puts its block at its procedure's offset.
use Rattle.std.proofs.Common.{◌≡◌, refl, ap, ◌∙◌}
use Rattle.model.specs.Tables
use Rattle.kind_words.specs.Rules.{rule_added}
use Rattle.prepared.specs.Contract.{contract_of}
use Rattle.prepared.proofs.Known.{rules-in}
use Rattle.symbol_kinds.proofs.add_rule.Goals as goal
use Rattle.symbol_kinds.proofs.add_rule.Goals.{After-number-p}

procedure : (c : After-number-p) → c.number-p.result ≡ (Tables.rule_at (contract_of c.args.prepared.now).transformation.rules c.args.r).procedure
procedure c = c.number-p.ensures ∙ ap (λ (x : Tables.Rule). x.procedure) (rw c.rules.ensures at c.rule_at-rule.ensures)

pub rule_block-block-requires : goal.rule_block-block-requires
rule_block-block-requires c =
    let fit = (rules-in c.args.prepared.now.ready).fit in
    let here = fit.procedure _ (fit.is_procedure _ c.requires) in
    rw (c.counts.ensures, procedure (goal.at.rule_block-block-requires c).After-number-p) (here.parameters, here.narrow)

pub put_block-requires : goal.put_block-requires
put_block-requires c =
    let fit = (rules-in c.args.prepared.now.ready).fit in
    rw (c.from-2.ensures, procedure (goal.at.put_block-requires c).After-number-p) (fit.procedure _ (fit.is_procedure _ c.requires)).inside

pub returns : goal.returns
returns c =
    let p = procedure (goal.at.returns c).After-number-p in
    let n = c.from.ensures ∙ ap (λ (x : Tables.Rule). x.node) (rw c.rules.ensures at c.rule_at-rule.ensures) in
    let block = rw c.counts.ensures at c.rule_block-block.ensures in
    c.put_block.ensures ∙ rule_added _ _ _ _ _ _ _ c.args.r _ _ _ _ refl p n c.from-2.ensures block
