-- Every mark passed is right, and the buffer is as it was behind them.
use Rattle.model.specs.Merging.{pair_mark}
use Rattle.merging_pairs.specs.Types.{marks_only}
use Rattle.merging_pairs.proofs.Written.{Filled}
use Rattle.merging_pairs.proofs.filling.fill_marks.Given as goal

abbrev pub invariant-loop-q : goal.invariant-loop-q
invariant-loop-q l = Filled (pair_mark (marks_only l.states.first l.first) (marks_only l.states.second l.second)) l.initial.merged l.merged l.q
