-- The word of the marked states below q.
use Rattle.std.proofs.Common.{◌≡◌, ℕ}
use Rattle.foundation.specs.Words.{word}
use Rattle.foundation.specs.Tests.{same}
use Rattle.model.specs.Tables.{mark_at}
use Rattle.breaking.proofs.states_marked.Given as goal

abbrev pub invariant-loop-q : goal.invariant-loop-q
invariant-loop-q l = l.states ≡ word l.q (λ (k : ℕ). same (mark_at l.marks k) l.mark)
