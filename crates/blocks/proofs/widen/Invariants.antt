-- The first q lanes are widened.
use Rattle.std.proofs.Common.{◌≡◌, ℕ, ◌*◌, ◌-◌, ◌/◌, ◌^◌}
use Rattle.std.specs.Int.Bits.{bit_and}
use Rattle.foundation.specs.Bits.{or_to}
use Rattle.blocks.proofs.widen.Given as goal

abbrev pub invariant-loop-q : goal.invariant-loop-q
invariant-loop-q l = l.wide ≡ or_to (λ (y : ℕ). bit_and (l.word / 2 ^ (y * l.narrow)) (2 ^ l.narrow - 1) * 2 ^ (y * l.width)) l.q
