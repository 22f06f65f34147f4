-- What is refused and what is taken follow from what the numbers looked at begin with.
use mathlib.Core.Path.{ap, sym, ◌∙◌}
use Rattle.std.proofs.Common.{rules}
use Rattle.std.proofs.lemmas.Result.{err_from_is_err_and}
use Rattle.reading.specs.Answers.{reading_verdict, taken_by_reading}
use Rattle.reading.proofs.Verdicts.{told_verdict, told_taken, verdict_begins, taken_begins}
use Rattle.reading.proofs.read.Goals as goal

pub returns-in_err-taken : goal.returns-in_err-taken
returns-in_err-taken c =
    let verdict = told_verdict _ _ _ _ c.map_err.ensures.cases (λ place fault said. search rules) ∙ verdict_begins _ _ _ _ c.looked_at-end.ensures (sym c.leading_tree.ensures) in
    let numbers = told_taken _ c.leading_tree.result c.map_err.result c.map_err.ensures.cases ∙ taken_begins _ _ _ _ c.looked_at-end.ensures (sym c.leading_tree.ensures) in
    let e = err_from_is_err_and c.from_residual.result c.from_residual.ensures.1 in
    rw (e.1, e.2) (record {
      result_value = ap reading_verdict (sym c.in_err-taken.was) ∙ verdict;
      result_value_2 = ap taken_by_reading (sym c.in_err-taken.was) ∙ numbers;
    })

pub returns-clause-result_value : goal.returns-clause-result_value
returns-clause-result_value c =
    ap reading_verdict (sym c.in_ok-taken.was)
    ∙ told_verdict _ _ _ _ c.map_err.ensures.cases (λ place fault said. search rules)
    ∙ verdict_begins _ _ _ _ c.looked_at-end.ensures (sym c.leading_tree.ensures)

pub returns-clause-result_value_2 : goal.returns-clause-result_value_2
returns-clause-result_value_2 c =
    ap taken_by_reading (sym c.in_ok-taken.was)
    ∙ told_taken _ c.leading_tree.result c.map_err.result c.map_err.ensures.cases
    ∙ taken_begins _ _ _ _ c.looked_at-end.ensures (sym c.leading_tree.ensures)
