-- Invariant: the kinds of the places from i on are kept.
use Rattle.prepared.specs.Contract.{contract_of}
use Rattle.document_kinds.specs.Stored.{StoredFrom}
use Rattle.document_kinds.proofs.fill_kinds.Given as goal

abbrev pub invariant-loop-i : goal.invariant-loop-i
invariant-loop-i l = StoredFrom (contract_of l.prepared) l.i l.numbers l.kinds
