-- By the symbol of each input row.
use Rattle.std.proofs.Common.{rules}
use Rattle.model.specs.Tables
use Rattle.chains.proofs.chain_rows.Goals as goal

pub returns : goal.returns
returns c = c.chain_numbers.ensures (λ r. (Tables.input_row c.args.rows.now r).symbol) (λ r s h post. search rules)
