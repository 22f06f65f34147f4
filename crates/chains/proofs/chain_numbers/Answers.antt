-- One number more.
use Rattle.std.proofs.Common.{◌≡◌, ℕ, ◌+◌, ◌-◌, arith, subst, sym}
use Rattle.chains.specs.Chaining.{Chaining, chaining_more, chaining_all}
use Rattle.chains.proofs.chain_numbers.Goals as goal

pub loop-r-preserved : goal.loop-r-preserved
loop-r-preserved g c of agree =
    let r : ℕ = c.loop-r.r - 1 in
    let back : c.loop-r.r ≡ c.loop-r.r - 1 + 1 = omega arith in
    let before = subst (λ (x : ℕ). Chaining of c.args.n c.args.firsts c.args.nexts x c.no_numbers.new.lists c.loop-r.lists) back (c.loop-r.invariant of agree) in
    chaining_more _ _ _ _ _ _ _ _ _ before (omega arith) (sym (agree _ c.symbol_of.result (omega arith) c.symbol_of.ensures))
    (c.requires.small _ c.symbol_of.result (omega arith) c.symbol_of.ensures)
    (omega arith)
    (omega (arith, c.no_numbers.ensures.long))
    c.link.ensures

pub returns : goal.returns
returns g c of agree =
    let done : c.loop-r.r ≡ 0 = omega arith in
    chaining_all of c.args.n c.args.firsts c.args.nexts _ _ _ c.no_numbers.ensures (rw done at (c.loop-r.invariant of agree))
