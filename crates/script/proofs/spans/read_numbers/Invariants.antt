-- The numbers read stand at the beginning of the buffer, and the list asked for is those followed by the list from the place reached.
use Rattle.script.proofs.Listings.{Reached}
use Rattle.script.proofs.spans.read_numbers.Given as goal

abbrev pub invariant-loop-count : goal.invariant-loop-count
invariant-loop-count l = Reached l.text l.cut l.at l.initial.buffer l.place l.count l.buffer
