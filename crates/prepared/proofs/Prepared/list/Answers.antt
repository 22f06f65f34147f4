-- The list of each symbol lies inside the table.
use Rattle.prepared.proofs.Known.{list_inside}
use Rattle.prepared.proofs.Prepared.list.Goals as goal

pub list_of-requires : goal.list_of-requires
list_of-requires c =
    let inside = list_inside c.args.self.now.ready _ c.requires in
    rw c.lists.ensures (c.requires, inside.0, inside.1)
