-- A document has a first place, which has the kind of the whole tree.
use Rattle.std.proofs.Common.{length, ap, arith}
use Rattle.model.specs.Documents.{document_tree}
use Rattle.model.proofs.Laws.Documents.{some_number}
use Rattle.document_kinds.specs.Stored.{stored_first}
use Rattle.document_kinds.proofs.kind_in_room.Goals as goal

pub bounds-kinds-0 : goal.bounds-kinds-0
bounds-kinds-0 g c = omega (arith, c.requires, some_number (document_tree c.args.numbers.now), ap length c.requires.0.numbers)

pub returns : goal.returns
returns g c = stored_first _ _ _ _ c.requires.0 c.fill_kinds.ensures
