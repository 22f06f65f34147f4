-- `admit_shape`: each answer is that of the first part that refuses. The sizes that are fine bound the length of the output table.
use Rattle.std.proofs.Common.{length}
use Rattle.model.specs.Admission.{sizes, lengths}
use Rattle.model.proofs.Laws.Admitted.{good_sizes}
use Rattle.answers.proofs.Answered.{answer_refused, answer_passed, answer_last, answer_fine}
use Rattle.admission_tables.proofs.Found.{found_refused, none_fine}
use Rattle.admission.proofs.admit_shape.Goals as goal

pub returns-in-Some : goal.returns-in-Some
unfolding sizes
returns-in-Some c = answer_refused _ _ 1 _ (found_refused _ _ 1 _ c.in-Some.ensures)

pub first_bad_length-requires : goal.first_bad_length-requires
first_bad_length-requires c =
    let given = c.args.contract.now in
    let s = good_sizes given.symbols given.input_states given.output_states (length given.counts.now) (none_fine _ _ 1 c.in_default.ensures) in
    (s.symbols.least≤, s.symbols.≤most, s.output_states.≤most)

pub returns-in-Some-first_bad_length : goal.returns-in-Some-first_bad_length
unfolding sizes lengths
returns-in-Some-first_bad_length c =
    answer_passed _ _ _ (none_fine _ _ 1 c.in_default.ensures) (answer_last _ 2 _ (found_refused _ _ 2 _ c.in-Some-first_bad_length.ensures))

pub returns : goal.returns
unfolding sizes lengths
returns c =
    answer_passed _ _ _ (none_fine _ _ 1 c.in_default.ensures) (answer_fine _ (none_fine _ _ 2 c.in_default-first_bad_length.ensures))
