-- One number more is pasted: it has room, as the list has.
use Rattle.std.proofs.Common.{List, ℕ, ◌+◌, get_or, slice_set, ap, ◌∙◌, arith}
use Rattle.std.proofs.Math.Numerals.{suc-eq-add-one}
use Rattle.std.proofs.Math.Seq.{paste-suc}
use Rattle.plans.proofs.copy_in.Goals as goal

pub loop-i-preserved : goal.loop-i-preserved
loop-i-preserved c =
    let i = c.loop-i.i in
    let at = c.args.at in
    let from = c.args.from.now in
    rw (← suc-eq-add-one i) (ap (λ (l : List ℕ). slice_set l (at + i) (get_or from i 0)) c.loop-i.invariant ∙ paste-suc c.args.table.now at from i 0 (omega (arith, c.requires, c.told-table)) (omega arith))
