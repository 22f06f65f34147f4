-- Rows without a mark are passed over.
use mathlib.Core.Path.{refl, sym, ◌∙◌}
use native.Mathlib.Omega.{arith}
use Rattle.round_pairs.specs.Steps.{pass_left, next_symbol}
use Rattle.round_pairs.proofs.Visits.{at_stood}
use Rattle.round_pairs.proofs.left_rows.Goals as goal

pub is_marked-requires : goal.is_marked-requires
is_marked-requires c =
    (omega (arith, (at_stood c.requires.0).1), omega (arith, c.requires.2, c.args.prepared.now.ready.established.symbols.≤most))

pub loop-left-preserved-then-not-is_marked : goal.loop-left-preserved-then-not-is_marked
loop-left-preserved-then-not-is_marked c =
    pass_left _ c.loop-left.invariant c.requires.1.0 refl c.requires.2 (omega arith) (sym c.is_marked.ensures ∙ c.if-not-is_marked.true)

pub returns : goal.returns
returns c = next_symbol _ c.loop-left.invariant (omega (arith, c.requires.3)) refl
