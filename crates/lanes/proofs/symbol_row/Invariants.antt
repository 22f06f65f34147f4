-- The word has the symbol over the first y lanes of the second word.
use Rattle.std.proofs.Common.{◌≡◌, ℕ, ◌+◌, get_or}
use Rattle.kind_words.specs.Lanes.{symbol_row}
use Rattle.lanes.proofs.symbol_row.Given as goal

abbrev pub invariant-loop-y : goal.invariant-loop-y
invariant-loop-y l = l.word ≡ symbol_row l.states l.width l.first l.second (λ (k : ℕ). get_or l.table (l.start + k) 0) l.y
