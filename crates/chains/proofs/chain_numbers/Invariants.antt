-- The numbers from r on are in chains.
use Rattle.std.proofs.Common.{◌≡◌, ℕ, ◌<◌}
use Rattle.tables.specs.declared.Symbol.{Symbol}
use Rattle.chains.specs.Chaining.{Chaining}
use Rattle.chains.proofs.chain_numbers.Given as goal

abbrev pub invariant-loop-r : goal.invariant-loop-r
invariant-loop-r g l =
    (of : ℕ → ℕ) → ((r : ℕ) (s : Symbol) → r < l.n → goal.F-post g l.fn.symbol_of r s → s.0 ≡ of r) → Chaining of l.n l.firsts l.nexts l.r l.initial.lists l.lists
