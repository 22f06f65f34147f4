-- The word has the first bit of each of the first q lanes.
use Rattle.std.proofs.Common.{◌≡◌, ℕ, ◌*◌, ◌^◌}
use Rattle.foundation.specs.Bits.{or_to}
use Rattle.layouts.proofs.starts_word.Given as goal

abbrev pub invariant-loop-q : goal.invariant-loop-q
invariant-loop-q l = l.word ≡ or_to (λ (k : ℕ). 1 * 2 ^ (k * l.width)) l.q
