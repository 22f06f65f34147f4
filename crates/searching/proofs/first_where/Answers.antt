use Rattle.std.proofs.Common.{◌≡◌, ◌<◌, ◌≤◌, ℕ, Bool, false, true, sym, ◌∙◌, arith, subst}
use Rattle.std.proofs.Math.Decide.{ℕ_discrete}
use Rattle.foundation.specs.Search.{below_at, below_none}
use Rattle.searching.proofs.first_where.Goals as goal

pub loop-k-preserved : goal.loop-k-preserved
loop-k-preserved g c t agrees k h =
    elim (ℕ_discrete k c.loop-k.k) [
      | yes e ↦ subst (λ n. t n ≡ false) (sym e) (sym (agrees c.loop-k.k c.test.result c.loop-k-test.true c.test.ensures) ∙ c.if-test.false)
      | no ne ↦ c.loop-k.invariant t agrees k (omega arith)
    ]

pub returns-then-test : goal.returns-then-test
returns-then-test g c t agrees =
    sym (below_at t c.args.n c.loop-k.k c.loop-k-test.true (c.loop-k.invariant t agrees) (sym (agrees c.loop-k.k c.test.result c.loop-k-test.true c.test.ensures) ∙ c.if-test.true))

pub returns : goal.returns
returns g c t agrees = sym (below_none t c.args.n (λ j h. c.loop-k.invariant t agrees j (omega arith)))
