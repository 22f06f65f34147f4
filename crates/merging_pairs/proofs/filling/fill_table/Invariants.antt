-- Every entry passed is right, and the buffer is as it was behind them.
use Rattle.model.specs.Merging.{pair_entry}
use Rattle.merging_pairs.specs.Types.{table_only}
use Rattle.merging_pairs.proofs.Written.{Filled}
use Rattle.merging_pairs.proofs.filling.fill_table.Given as goal

abbrev pub invariant-loop-k : goal.invariant-loop-k
invariant-loop-k l = Filled (pair_entry (table_only l.states.first l.first) (table_only l.states.second l.second)) l.initial.merged l.merged l.k
