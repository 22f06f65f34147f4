-- At symbol 0 stands the empty forest; at another place its children's kinds are joined.
use Rattle.std.proofs.Common.{◌+◌, ◌∙◌, arith}
use Rattle.model.proofs.Laws.Documents.{leaf_place}
use Rattle.kind_words.specs.Blocks.{Words}
use Rattle.prepared.specs.Contract.{contract_of}
use Rattle.document_kinds.specs.Stored.{Children, kind_at, kind-words, kind_empty, children}
use Rattle.document_kinds.proofs.kind_of_place.Goals as goal
use Rattle.document_kinds.proofs.kind_of_place.Goals.{Else-symbol-eq0}

here : (c : Else-symbol-eq0) → Children (contract_of c.args.prepared.now) c.args.numbers.now c.args.ends.now c.args.kinds.now c.args.i
here c =
    children _ _ _ _ _ c.requires.ready.0.readable c.requires.ends_from.0 c.requires.empty_value.1 c.requires.ready.1 (omega (arith, c.if-symbol-eq0.false))

pub returns-then-symbol-eq0 : goal.returns-then-symbol-eq0
returns-then-symbol-eq0 c = c.requires.empty_value.0 ∙ kind_empty _ _ (leaf_place _ _ c.requires.ready.1 c.if-symbol-eq0.true)

pub bounds-kinds-i : goal.bounds-kinds-i
bounds-kinds-i c = omega (arith, (here (goal.at.bounds-kinds-i c).Else-symbol-eq0).left_within, c.requires.empty_value.1.long)

pub right_child-requires : goal.right_child-requires
right_child-requires c = omega (arith, (here (goal.at.right_child-requires c).Else-symbol-eq0).left_within, c.requires.ends_from.1)

pub bounds-kinds-right_child : goal.bounds-kinds-right_child
bounds-kinds-right_child c =
    omega (arith, c.right_child.ensures, (here (goal.at.bounds-kinds-right_child c).Else-symbol-eq0).right_within, c.requires.empty_value.1.long)

pub kind_of-requires : goal.kind_of-requires
kind_of-requires c =
    let here = here (goal.at.kind_of-requires c).Else-symbol-eq0 in
    let known = c.args.prepared.now.ready.established in
    let left : Words (kind_at c.args.kinds.now (c.args.i + 1)) = kind-words _ known _ _ here.left in
    let right : Words (kind_at c.args.kinds.now c.right_child.result) = rw c.right_child.ensures (kind-words _ known _ _ here.right) in
    (omega (arith, c.requires.ready.0.below _ c.requires.ready.1, known.symbols.≤most), search, search)

pub returns : goal.returns
returns c = c.kind_of.ensures ∙ rw c.right_child.ensures (here (goal.at.returns c).Else-symbol-eq0).joined
