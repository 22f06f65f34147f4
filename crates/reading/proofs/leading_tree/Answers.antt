-- By the number reached, what was read before it and what is read from it on.
use mathlib.Core.Path.{sym, ◌∙◌}
use native.Mathlib.Omega.{arith}
use borrow.Author.Tests.{leb-true, leb-false}
use lib.ListN.{get_or}
use Rattle.reading.proofs.Steps.{reached_start, reached_end, reached_short, reached_fault, reached-next, due_bound}
use Rattle.reading.proofs.leading_tree.Goals as goal

pub loop-at-init : goal.loop-at-init
loop-at-init c = (omega arith, omega arith, reached_start _ _)

pub returns-then-symbol_wrong : goal.returns-then-symbol_wrong
returns-then-symbol_wrong c = reached_fault _ _ _ _ c.loop-at.invariant.2 (omega arith) (omega arith) (leb-true _ _ (sym c.symbol_wrong.ensures ∙ c.if-symbol_wrong.true))

pub returns-then-due-eq0 : goal.returns-then-due-eq0
returns-then-due-eq0 c =
    let next = reached-next _ _ _ _ c.loop-at.invariant.2 (omega arith) (omega arith) (leb-false _ _ (sym c.symbol_wrong.ensures ∙ c.if-symbol_wrong.false)) in
    reached_end _ _ _ _ (rw (← c.due_after-due.ensures) at next) (omega arith)

pub loop-at-preserved : goal.loop-at-preserved
loop-at-preserved c =
    let number = get_or c.args.numbers.now c.loop-at.at 0 in
    let e = c.due_after-due.ensures in (
      omega arith,
      rw e (omega (arith, due_bound number c.loop-at.due)),
      rw e (reached-next _ _ _ _ c.loop-at.invariant.2 (omega arith) (omega arith) (leb-false _ _ (sym c.symbol_wrong.ensures ∙ c.if-symbol_wrong.false))),
    )

pub returns : goal.returns
returns c = reached_short _ _ _ _ c.loop-at.invariant.2 (omega arith) (omega arith)
