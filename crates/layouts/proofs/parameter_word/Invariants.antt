-- The word has the parameter's state at each of the first c assignments.
use Rattle.std.proofs.Common.{◌≡◌, ℕ, ◌*◌, ◌/◌, ◌%◌, ◌^◌}
use Rattle.foundation.specs.Bits.{or_to}
use Rattle.layouts.proofs.parameter_word.Given as goal

abbrev pub invariant-loop-c : goal.invariant-loop-c
invariant-loop-c l = l.word ≡ or_to (λ (k : ℕ). 1 * 2 ^ k * 2 ^ (k / l.weight % l.states * l.width)) l.c
