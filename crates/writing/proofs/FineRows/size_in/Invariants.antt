-- The sizes of the rows below k are there.
use mathlib.Core.Path.{◌≡◌}
use Prim.Native.Nat.{ℕ, ◌<◌}
use lib.ListN.{get_or}
use Rattle.writing.specs.Rows.{size_within}
use Rattle.writing.proofs.FineRows.size_in.Given as goal

abbrev pub invariant-loop-k : goal.invariant-loop-k
invariant-loop-k g l = (j : ℕ) → j < l.k → get_or l.sizes j 0 ≡ size_within l.most l.self.rows.now j
