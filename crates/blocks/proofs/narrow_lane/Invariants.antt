-- The first bits are taken, each a step further up.
use Rattle.std.proofs.Common.{◌≡◌}
use Rattle.kind_words.specs.Blocks.{narrowed_lane}
use Rattle.blocks.proofs.narrow_lane.Given as goal

abbrev pub invariant-loop-c : goal.invariant-loop-c
invariant-loop-c l = l.bits ≡ narrowed_lane l.word l.start l.step l.c
