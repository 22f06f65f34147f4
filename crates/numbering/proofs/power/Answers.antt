-- `power` reads the entry of O and the exponent, which the test over the table makes their power.
use mathlib.Core.Path.{◌∙◌}
use native.Mathlib.Omega.{arith}
use Rattle.numbering.proofs.PowerTable.{power_is}
use Rattle.numbering.proofs.power.Goals as goal

pub returns : goal.returns
returns c = c.from.ensures ∙ power_is c.powers-table.result c.powers-table.ensures _ _ _ (omega arith) (omega arith) (omega arith)
