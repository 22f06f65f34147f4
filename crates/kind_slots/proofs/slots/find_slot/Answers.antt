-- The search ends at this slot, or goes on behind a row of another kind.
use Rattle.std.proofs.Common.{ℕ, ◌%◌, refl, sym, ap, ◌∙◌, arith}
use Rattle.kind_slots.proofs.Searching.{others_are, reached_first, reached_few, reached-next, ends_at_row, ends_at_free, read_here}
use Rattle.kind_slots.proofs.slots.find_slot.Goals as goal
use Rattle.kind_slots.proofs.slots.find_slot.Goals.{then-entry-eq0-via-then-entry-eq0, then-entry-eq0-via-else-entry-eq0+then-is_of_kind}

pub search-init : goal.search-init
search-init c = reached_first _ _ _ c.requires (ap (λ (sum : ℕ). sum % 1024) c.sums_of-sums.ensures.0) (others_are _ c.sums_of-sums.ensures.1 c.print_of.ensures c.others_of-others.ensures) c.pass_others-place.ensures refl refl

pub returns-then-entry-eq0 : goal.returns-then-entry-eq0
returns-then-entry-eq0 c =
    let here = read_here _ _ _ c.search.invariant c.slot_at-slot.ensures c.entry_in-entry.ensures in
    c.slot_at-slot.ensures
    ∙ elim c.then-entry-eq0.branch [
      | then-entry-eq0-via-then-entry-eq0 w ↦ ends_at_free _ _ _ c.requires here w.if-entry-eq0.true
      | then-entry-eq0-via-else-entry-eq0+then-is_of_kind w ↦ ends_at_row _ _ _ c.requires here (sym w.is_of_kind.ensures ∙ w.if-is_of_kind.true)
    ]

pub overflow_add-place : goal.overflow_add-place
overflow_add-place c = omega (arith, reached_few _ _ _ c.requires c.search.invariant)

pub pass_others-place-requires-in-search : goal.pass_others-place-requires-in-search
pass_others-place-requires-in-search c = (c.requires.half, omega (arith, reached_few _ _ _ c.requires c.search.invariant))

pub search-smaller : goal.search-smaller
search-smaller c = omega (arith, c.pass_others-place-in-search.ensures, reached_few _ _ _ c.requires c.search.invariant)

pub search-preserved : goal.search-preserved
search-preserved c =
    reached-next _ _ _ c.requires (read_here _ _ _ c.search.invariant c.slot_at-slot.ensures c.entry_in-entry.ensures) c.if-entry-eq0.false (sym c.is_of_kind.ensures ∙ c.if-is_of_kind.false)
    (others_are _ c.sums_of-sums.ensures.1 c.print_of.ensures c.others_of-others.ensures) c.pass_others-place-in-search.ensures refl refl
