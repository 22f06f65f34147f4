-- A procedure has an assignment at least, and no more than a lane has bits.
use Rattle.std.proofs.Common.{◌≡◌, ◌^◌}
use Rattle.lanes.proofs.Room.{pow_some}
use Rattle.node_words.proofs.procedure_word.Goals as goal

pub widen-requires : goal.widen-requires
widen-requires c =
    let layout = c.requires.layout in
    let e : c.assignments-narrow.result ≡ c.args.layout.now.states ^ c.args.count = c.assignments-narrow.ensures in
    rw e (layout.laid.sized, pow_some _ _ layout.some, c.requires.narrow)
