-- There is a stay rule exactly if a search finds one.
use mathlib.Core.Path.{sym, ◌∙◌}
use Rattle.kind_words.specs.Chains.{first_chained}
use Rattle.preparing.proofs.stay_rounds.Goals as goal

pub returns-then-has_rules : goal.returns-then-has_rules
returns-then-has_rules c = rw (first_chained _ _ c.requires.0 c.args.stay.0 c.requires.1, sym c.has_rules.ensures ∙ c.if-has_rules.true)

pub returns : goal.returns
returns c = rw (first_chained _ _ c.requires.0 c.args.stay.0 c.requires.1, sym c.has_rules.ensures ∙ c.if-has_rules.false)
