-- Invariant: the mask has the facts that the nodes of the list so far call on the side.
use Rattle.std.specs.Prelude.{◌≡◌}
use Rattle.kind_words.specs.Kind.{list_of}
use Rattle.prepared.specs.Contract.{contract_of, lists_of}
use Rattle.masks.specs.Calls.{called_to}
use Rattle.masks.proofs.facts_seen.Given as goal

abbrev pub invariant-loop-n : goal.invariant-loop-n
invariant-loop-n l =
    let C = contract_of l.prepared in
    l.mask ≡ called_to C.output.states C.transformation.counts l.prepared.parts.offsets C.transformation.nodes (list_of (lists_of l.prepared) l.fn.symbol.0) l.on_right l.n-index
