-- No slot is entered for the empty list.
use Rattle.kind_slots.proofs.Finding.{none_entered}
use Rattle.rounds.proofs.list_kinds.Goals as goal

pub first_round-requires : goal.first_round-requires
first_round-requires c = (c.requires.0, none_entered _, c.requires.1)
