-- Every entry is right, and the buffer is as it was behind them; there are few, since there are few pairs.
use Rattle.std.proofs.Common.{◌≡◌, ◌*◌, arith}
use Rattle.model.specs.Admission.{table_length}
use Rattle.model.proofs.Laws.Merging.{table_filled}
use Rattle.admission_tables.proofs.Bounds.{table_bounds}
use Rattle.merging_pairs.specs.Types.{table_only}
use Rattle.merging_pairs.proofs.filling.fill_table.Goals as goal

pub entry_of-requires : goal.entry_of-requires
entry_of-requires c =
    let few = table_bounds c.args.symbols _ c.requires.symbols.1 c.args.states.few.few_pairs in
    record { below = (c.requires.below.0, c.requires.below.1, omega (arith, few)) }

pub returns : goal.returns
returns c =
    let args = c.args in
    let end : c.loop-k.k ≡ table_length args.symbols (args.states.first * args.states.second) = omega arith in
    let filled = rw end at c.loop-k.invariant in
    table_filled args.symbols (table_only args.states.first args.first.now) (table_only args.states.second args.second.now) _ _ filled.long (omega (arith, c.requires.second_in_bounds, filled.long)) filled.right filled.kept
