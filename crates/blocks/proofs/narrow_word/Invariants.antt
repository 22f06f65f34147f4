-- The first q lanes are narrowed.
use Rattle.std.proofs.Common.{◌≡◌, ℕ, ◌*◌, ◌^◌}
use Rattle.foundation.specs.Bits.{or_to}
use Rattle.kind_words.specs.Blocks.{narrowed_lane}
use Rattle.blocks.proofs.narrow_word.Given as goal

abbrev pub invariant-loop-q : goal.invariant-loop-q
invariant-loop-q l = l.block ≡ or_to (λ (y : ℕ). narrowed_lane l.word (y * l.width) l.step l.narrow * 2 ^ (y * l.narrow)) l.q
