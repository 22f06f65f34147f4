use Rattle.std.proofs.Common.{◌≡◌, suc, ◌-◌, arith}
use Rattle.tables.specs.Tuples.{rule_of}
use Rattle.plans.proofs.FirstSides.{listed_none, listed_more}
use Rattle.plans.proofs.set_sides.Goals as goal

pub loop-k-init : goal.loop-k-init
loop-k-init c = rw (c.fill.ensures.after (λ y h. h), c.requires.0) (listed_none c.args.rules.now)

pub loop-k-preserved : goal.loop-k-preserved
loop-k-preserved c =
    let one : c.loop-k.k ≡ suc (c.loop-k.k - 1) = omega arith in
    rw c.entry_of.ensures.0
    (listed_more c.args.rules.now (c.loop-k.k - 1) c.loop-k.sides (omega arith) c.requires.1 (rw one at c.loop-k.invariant) (rule_of c.rule_at-rule.result) c.rule_at-rule.ensures)
