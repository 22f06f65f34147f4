-- The kind without its marks, and the marks that the right kind gives.
use Rattle.std.proofs.Common.{List, [], ◌∷◌, ◌++◌, ℕ, ap, ◌∙◌}
use Rattle.kind_words.specs.Marked.{first_marked, symbol_marked, unmarked_small}
use Rattle.kind_words.specs.Ends.{kind_five}
use Rattle.symbol_kinds.proofs.symbol_kind.Goals as goal

pub marked_over-requires : goal.marked_over-requires
marked_over-requires c =
    rw c.unmarked_kind-kind.ensures (unmarked_small _ c.args.prepared.now.ready.established.input_states.≤most c.args.symbol.0 c.args.left.now c.args.right.now)

pub returns : goal.returns
returns c =
    let s = c.args.symbol.0 in
    first_marked _ c.unmarked_kind-kind.ensures c.marked_over.ensures
    ∙ symbol_marked _ s c.args.left.now c.args.right.now
    ∙ ap (λ (k : List ℕ). k ++ (0 ∷ [])) (kind_five _ c.args.prepared.now.ready.established s c.args.left.now c.args.right.now)
