-- `reading::end_at` meets its contract: symbol 0 takes one number; another place ends where its right child does, which
-- starts where the left one ends.
use mathlib.Core.Path.{ap, sym, ◌∙◌}
use Prim.Native.Nat.{ℕ, ◌<◌}
use native.Mathlib.Omega.{arith}
use lib.ListN.{length, get_or}
use Rattle.model.proofs.Laws.Documents.{leaf_end}
use Rattle.reading.proofs.Ends.{Known, known}
use Rattle.reading.proofs.end_at.Goals as goal

pub returns-then-numbers-i-eq0 : goal.returns-then-numbers-i-eq0
returns-then-numbers-i-eq0 c = sym (leaf_end _ _ c.requires.i_in_bounds.0 c.if-numbers-i-eq0.true)

pub right_child-right-requires : goal.right_child-right-requires
right_child-right-requires c =
    let later : Known c.args.numbers.now c.args.ends.now c.args.i = known _ _ _ c.requires.readable c.requires.i_in_bounds.0 c.requires.ends_from c.if-numbers-i-eq0.false in let k = later in omega arith

pub bounds-ends-right : goal.bounds-ends-right
bounds-ends-right c =
    let later : Known c.args.numbers.now c.args.ends.now c.args.i = known _ _ _ c.requires.readable c.requires.i_in_bounds.0 c.requires.ends_from c.if-numbers-i-eq0.false in
    let right-within : c.right_child-right.result < length c.args.numbers.now = rw c.right_child-right.ensures later.right in let k = right-within in omega arith

pub returns : goal.returns
returns c =
    let later : Known c.args.numbers.now c.args.ends.now c.args.i = known _ _ _ c.requires.readable c.requires.i_in_bounds.0 c.requires.ends_from c.if-numbers-i-eq0.false in ap (λ (j : ℕ). get_or c.args.ends.now j 0) c.right_child-right.ensures ∙ later.end
