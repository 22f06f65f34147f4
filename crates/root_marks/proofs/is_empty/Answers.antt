-- The bit as it is tested.
use Rattle.model.specs.Kinds.{marks_in}
use Rattle.root_marks.proofs.MarkBits.{bit_tested}
use Rattle.root_marks.proofs.is_empty.Goals as goal

pub returns : goal.returns
unfolding marks_in
returns c = bit_tested _ 33
