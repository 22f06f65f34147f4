-- `admit_types`: each answer is that of the first part that refuses. What the shape bounds is lent to the searches. Where none
-- refuses stands first, since a part that looks at less is wrong there.
use Rattle.model.specs.Admission.{input_rows, entries, counts}
use Rattle.tables.specs.Handed.{handed}
use Rattle.answers.proofs.Answered.{answer_refused, answer_passed, answer_last, answer_fine}
use Rattle.admission_tables.proofs.Found.{found_refused, none_fine}
use Rattle.admission.proofs.Order.{few_entries, few_procedures}
use Rattle.admission.proofs.admit_types.Goals as goal

pub returns : goal.returns
unfolding input_rows entries counts
returns c =
    answer_passed _ _ _ (none_fine _ _ 3 c.in_default.ensures)
    (answer_passed _ _ _ (none_fine _ _ 4 c.in_default-first_bad_entry.ensures)
    (answer_fine _ (none_fine _ _ 5 c.in_default-first_bad_count.ensures)))

pub returns-in-Some : goal.returns-in-Some
unfolding input_rows
returns-in-Some c = answer_refused _ _ 3 _ (found_refused _ _ 3 _ c.in-Some.ensures)

pub first_bad_entry-requires : goal.first_bad_entry-requires
first_bad_entry-requires c = few_entries (handed c.args.contract.now) c.requires

pub returns-in-Some-first_bad_entry : goal.returns-in-Some-first_bad_entry
unfolding input_rows entries
returns-in-Some-first_bad_entry c =
    answer_passed _ _ _ (none_fine _ _ 3 c.in_default.ensures) (answer_refused _ _ 4 _ (found_refused _ _ 4 _ c.in-Some-first_bad_entry.ensures))

pub first_bad_count-requires : goal.first_bad_count-requires
first_bad_count-requires c = few_procedures (handed c.args.contract.now) c.requires

pub returns-in-Some-first_bad_count : goal.returns-in-Some-first_bad_count
unfolding input_rows entries counts
returns-in-Some-first_bad_count c =
    answer_passed _ _ _ (none_fine _ _ 3 c.in_default.ensures)
    (answer_passed _ _ _ (none_fine _ _ 4 c.in_default-first_bad_entry.ensures)
    (answer_last _ 5 _ (found_refused _ _ 5 _ c.in-Some-first_bad_count.ensures)))
