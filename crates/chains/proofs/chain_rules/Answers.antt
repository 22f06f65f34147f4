-- By the symbol of each rule.
use Rattle.std.proofs.Common.{rules}
use Rattle.model.specs.Tables
use Rattle.chains.proofs.chain_rules.Goals as goal

pub returns : goal.returns
returns c = c.chain_numbers.ensures (λ r. (Tables.rule_at c.args.rules.now r).symbol) (λ r s h post. search rules)
