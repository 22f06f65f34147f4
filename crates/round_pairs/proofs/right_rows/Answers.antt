-- The loops begin behind the pairs of the round before, and pass over rows without a mark.
use mathlib.Core.Path.{refl, sym, ◌∙◌}
use native.Mathlib.Omega.{arith}
use Rattle.round_pairs.specs.Steps.{begin_right, pass_right, next_left}
use Rattle.round_pairs.proofs.Visits.{at_stood}
use Rattle.round_pairs.proofs.right_rows.Goals as goal

pub loop-right-init : goal.loop-right-init
loop-right-init c = (begin_right _ c.requires.0 refl c.requires.2 c.first_right-right.result c.first_right-right.ensures).0

pub is_marked-requires : goal.is_marked-requires
is_marked-requires c =
    (omega (arith, (at_stood c.requires.0).1), omega (arith, c.requires.2, c.args.prepared.now.ready.established.symbols.≤most))

pub loop-right-preserved-then-not-is_marked : goal.loop-right-preserved-then-not-is_marked
loop-right-preserved-then-not-is_marked c =
    pass_right _ c.loop-right.invariant c.requires.1 c.requires.2 c.requires.3 (omega arith) (sym c.is_marked.ensures ∙ c.if-not-is_marked.true)

pub overflow_cast-pair : goal.overflow_cast-pair
overflow_cast-pair c = omega (arith, (at_stood c.requires.0).1)

pub overflow_cast-pair-in-loop-right : goal.overflow_cast-pair-in-loop-right
overflow_cast-pair-in-loop-right c = omega (arith, (at_stood c.requires.0).1)

pub returns : goal.returns
returns c =
    let begun = begin_right _ c.requires.0 refl c.requires.2 c.first_right-right.result c.first_right-right.ensures in
    next_left _ c.loop-right.invariant (omega (arith, begun.1))
