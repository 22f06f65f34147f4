-- The word has the call over the first x states of the first argument.
use Rattle.std.proofs.Common.{◌≡◌, [], ◌∷◌}
use Rattle.kind_words.specs.Lanes.{call_states}
use Rattle.lanes.proofs.Layout.call_two.Given as goal

abbrev pub invariant-loop-x : goal.invariant-loop-x
invariant-loop-x l = l.calls ≡ call_states l.self.states l.self.width l.self.starts l.facts l.self.ones 0 l.first (l.second ∷ []) l.x
