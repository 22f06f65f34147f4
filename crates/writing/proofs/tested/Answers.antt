-- By the two tests of the rows.
use mathlib.Core.Path.{sym, ◌∙◌}
use Rattle.writing.proofs.Answers.{wrong_length, wrong_row, right_rows, none_wrong}
use Rattle.writing.proofs.tested.Goals as goal

pub returns-then-tuples_wrong-clause-verdict : goal.returns-then-tuples_wrong-clause-verdict
returns-then-tuples_wrong-clause-verdict c = wrong_length c.args.rows.now (sym c.tuples_wrong.ensures ∙ c.if-tuples_wrong.true)

pub returns-in-Some-clause-verdict : goal.returns-in-Some-clause-verdict
returns-in-Some-clause-verdict c = wrong_row c.args.rows.now (sym c.tuples_wrong.ensures ∙ c.if-tuples_wrong.false) _ (sym c.first_wrong_row.ensures ∙ c.in-Some.is)

pub invariant_of-result : goal.invariant_of-result
invariant_of-result c = record { none_wrong = none_wrong c.args.rows.now (sym c.first_wrong_row.ensures ∙ c.in_default.is) }

pub returns-clause-verdict : goal.returns-clause-verdict
returns-clause-verdict c = right_rows c.args.rows.now (sym c.tuples_wrong.ensures ∙ c.if-tuples_wrong.false) (sym c.first_wrong_row.ensures ∙ c.in_default.is)
