-- What is called gives the table form of the kind step by step; the table form is the kind without its marks.
use Rattle.std.proofs.Common.{◌∙◌, arith}
use Rattle.kind_words.specs.Kind.{kind_steps}
use Rattle.prepared.proofs.Known.{kind_form_is}
use Rattle.symbol_kinds.proofs.unmarked_kind.Goals as goal

pub returns : goal.returns
returns c =
    let ready = c.args.prepared.now.ready in
    let s = c.args.symbol.0 in
    let left = c.args.left.now in
    let right = c.args.right.now in
    let room = c.args.room.now in
    kind_steps _ _ _ _ _ _ _ _ room s left right _ _ _ c.fill_words_for.ensures c.facts_for-kind.ensures c.states_for.ensures
    ∙ kind_form_is ready room (omega (arith, ready.established.nodes.few)) s c.requires.0 left right c.requires.1 c.requires.2
