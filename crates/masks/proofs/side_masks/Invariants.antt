-- Invariant: the masks of the symbols below s show what those can see.
use Rattle.prepared.specs.Contract.{contract_of}
use Rattle.masks.specs.Seen.{AllSee}
use Rattle.masks.proofs.side_masks.Given as goal

abbrev pub invariant-loop-s : goal.invariant-loop-s
invariant-loop-s l = AllSee (contract_of l.prepared) l.on_right l.s l.masks
