use Rattle.std.proofs.Common.{◌≡◌, ◌<◌, ℕ, Bool, false}
use Rattle.searching.proofs.first_where.Given as goal

-- no number so far passes
abbrev pub invariant-loop-k : goal.invariant-loop-k
invariant-loop-k g l = (t : ℕ → Bool) → ((k : ℕ) (b : Bool) → k < l.fn.n → goal.F-post g l.fn.test k b → b ≡ t k) → (k : ℕ) → k < l.k → t k ≡ false
