-- One state more.
use Rattle.std.proofs.Common.{ℕ, arith}
use Rattle.foundation.specs.Tests.{same}
use Rattle.model.specs.Tables.{mark_at}
use Rattle.breaking.proofs.MarkWords.{word_none, word_more, word_small, same_test}
use Rattle.breaking.proofs.states_marked.Goals as goal

pub loop-q-init : goal.loop-q-init
loop-q-init c = word_none _

pub with_bit-states-requires : goal.with_bit-states-requires
with_bit-states-requires c = (omega arith, word_small _ _ _ c.loop-q.invariant)

pub loop-q-preserved : goal.loop-q-preserved
loop-q-preserved c = word_more (λ (k : ℕ). same (mark_at c.args.marks.now k) c.args.mark) _ _ _ _ c.loop-q.invariant (same_test _ _) c.with_bit-states.ensures
