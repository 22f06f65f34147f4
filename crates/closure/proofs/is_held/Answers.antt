-- The two kinds are read as they were sent, and the list is searched for the kind of the symbol over them.
use Rattle.std.proofs.Common.{rules}
use Rattle.closure.proofs.Searching.{search_over}
use Rattle.closure.proofs.is_held.Goals as goal

pub kind_of-kind-requires : goal.kind_of-kind-requires
kind_of-kind-requires c = (c.requires.0, search rules, search rules)

pub returns : goal.returns
returns c =
    let sent = c.args.sent.now in
    search_over _ sent.masked.now.prepared.ready.established _ _ _ sent.searchable _ _ _ c.kind_at-left_kind.result c.kind_at-right_kind.result c.kind_of-kind.result
    (rw c.number.ensures at c.kind_at-left_kind.ensures) (rw c.number-2.ensures at c.kind_at-right_kind.ensures) c.kind_of-kind.ensures c.is_shown.ensures
