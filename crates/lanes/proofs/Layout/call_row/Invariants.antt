-- The word has the call over the first y states of the argument.
use Rattle.std.proofs.Common.{◌≡◌, []}
use Rattle.kind_words.specs.Lanes.{call_states}
use Rattle.lanes.proofs.Layout.call_row.Given as goal

abbrev pub invariant-loop-y : goal.invariant-loop-y
invariant-loop-y l = l.calls ≡ call_states l.self.states l.self.width l.self.starts l.facts l.lane l.chosen l.word [] l.y
