-- The word has the symbol over the first x lanes of the first word.
use Rattle.std.proofs.Common.{◌≡◌, ℕ, ◌+◌, ◌*◌, get_or}
use Rattle.kind_words.specs.Lanes.{symbol_word}
use Rattle.lanes.proofs.Layout.symbol_word.Given as goal

abbrev pub invariant-loop-x : goal.invariant-loop-x
invariant-loop-x l = l.word ≡ symbol_word l.self.states l.self.width l.first l.second (λ (x : ℕ) (y : ℕ). get_or l.table (l.start + x * l.self.states + y) 0) l.x
