-- One digit more is written.
use Rattle.std.proofs.Common.{arith}
use Rattle.printing.proofs.Columns.{column_more}
use Rattle.printing.proofs.decimals.to_decimal.Goals as goal

pub loop-rest-preserved : goal.loop-rest-preserved
loop-rest-preserved c = column_more _ _ c.loop-rest.invariant (omega arith) _ c.last_digit.ensures
