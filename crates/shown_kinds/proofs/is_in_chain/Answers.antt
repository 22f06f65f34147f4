-- The row does not look so, and the search goes on behind it.
use Rattle.std.proofs.Common.{◌≡◌, suc, sym, ◌∙◌, arith}
use Rattle.shown_kinds.proofs.Latest.{reached_behind}
use Rattle.shown_kinds.proofs.is_in_chain.Goals as goal

pub loop-k-smaller : goal.loop-k-smaller
loop-k-smaller c =
    let after : c.loop-k.next ≡ suc c.in-Some.k = omega (arith, c.in-Some.ensures) in
    (reached_behind _ _ _ c.args.chains.now _ _ _ c.loop-k.invariant after _ c.requires.0 c.place_at-next.ensures (sym c.looks_so.ensures ∙ c.if-looks_so.false)).0

pub loop-k-preserved : goal.loop-k-preserved
loop-k-preserved c =
    let after : c.loop-k.next ≡ suc c.in-Some.k = omega (arith, c.in-Some.ensures) in
    (reached_behind _ _ _ c.args.chains.now _ _ _ c.loop-k.invariant after _ c.requires.0 c.place_at-next.ensures (sym c.looks_so.ensures ∙ c.if-looks_so.false)).1
