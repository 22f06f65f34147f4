-- The rows of the round stand in the buffers; what the offer comes to is one step of the round.
use native.Mathlib.Omega.{arith}
use Rattle.round_pairs.proofs.Visits.{at_room, row_room, visit-pair}
use Rattle.round_pairs.proofs.visit_pair.Goals as goal

pub kind_at-left_kind-requires : goal.kind_at-left_kind-requires
kind_at-left_kind-requires c = (row_room c.requires.0 _ (omega (arith, c.from.ensures, c.requires.2))).0

pub kind_at-right_kind-requires : goal.kind_at-right_kind-requires
kind_at-right_kind-requires c = (row_room c.requires.0 _ (omega (arith, c.from-2.ensures, c.requires.3))).0

pub offer-requires : goal.offer-requires
offer-requires c = (at_room c.requires.0, c.requires.0.list.entered)

pub returns : goal.returns
returns c =
    let ready = c.args.prepared.now.ready in
    visit-pair c.requires.0 ready.established ready.verdicts c.requires.1 c.requires.2 c.requires.3 c.kind_at-left_kind.result c.kind_at-right_kind.result c.kind_of-kind.result
    (rw c.from.ensures at c.kind_at-left_kind.ensures) (rw c.from-2.ensures at c.kind_at-right_kind.ensures) c.kind_of-kind.ensures c.offer.result _ _ _ c.offer.ensures
