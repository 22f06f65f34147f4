-- The slots tell whether the kind is listed; by the arms, what each answer comes to is said by the cases of `offering`.
use mathlib.Core.Bool.{true, false}
use native.Mathlib.Omega.{arith}
use Rattle.kind_slots.proofs.Finding.{searchable, slot_few}
use Rattle.kind_lists.proofs.Offers.{offer_old, offer_full, offer_stored}
use Rattle.kind_lists.proofs.listing.offer.Goals as goal

pub find_slot-slot-requires : goal.find_slot-slot-requires
find_slot-slot-requires c = searchable _ _ _ c.requires.1 (omega (arith, c.requires.0.used, c.requires.0.word_room))

pub is_occupied-requires : goal.is_occupied-requires
is_occupied-requires c = omega (arith, c.find_slot-slot.ensures, slot_few c.args.words.now c.args.slots.now c.args.kind.now)

pub returns-then-is_occupied : goal.returns-then-is_occupied
returns-then-is_occupied c =
    let a = c.args in
    offer_old a.verdicts a.limit a.count a.row.symbol.0 a.row.left a.row.right a.kind.now a.slots.now a.rows.now a.words.now c.requires.1 c.find_slot-slot.ensures c.is_occupied.ensures c.if-is_occupied.true

pub returns-then-count-limit : goal.returns-then-count-limit
returns-then-count-limit c =
    let a = c.args in
    offer_full a.verdicts a.limit a.count a.row.symbol.0 a.row.left a.row.right a.kind.now a.slots.now a.rows.now a.words.now c.requires.1 c.find_slot-slot.ensures c.is_occupied.ensures c.if-is_occupied.false c.if-count-limit.true

pub enter_row-requires : goal.enter_row-requires
enter_row-requires c = (omega (arith, c.find_slot-slot.ensures, slot_few c.args.words.now c.args.slots.now c.args.kind.now), omega (arith, c.requires.0.used, c.requires.0.few))

pub returns-then-breaking : goal.returns-then-breaking
returns-then-breaking c =
    let a = c.args in
    offer_stored a.verdicts a.limit a.count a.row.symbol.0 a.row.left a.row.right a.kind.now a.slots.now a.rows.now a.words.now c.requires.1 c.find_slot-slot.ensures c.is_occupied.ensures c.if-is_occupied.false c.if-count-limit.false c.breaks-breaking.ensures true c.if-breaking.true c.enter_row.ensures c.store_row.ensures c.store_kind.ensures

pub returns : goal.returns
returns c =
    let a = c.args in
    offer_stored a.verdicts a.limit a.count a.row.symbol.0 a.row.left a.row.right a.kind.now a.slots.now a.rows.now a.words.now c.requires.1 c.find_slot-slot.ensures c.is_occupied.ensures c.if-is_occupied.false c.if-count-limit.false c.breaks-breaking.ensures false c.if-breaking.false c.enter_row.ensures c.store_row.ensures c.store_kind.ensures
