-- The counts of an admitted contract are small enough for its layout and its offsets.
use Rattle.std.specs.Prelude.{ℕ, ◌<◌, length}
use Rattle.model.specs.Tables.{Contract}
use Rattle.model.specs.Admission.{most_facts}
use Rattle.model.specs.Facts.{offset}
use Rattle.model.proofs.Laws.Established.{Established}
use Rattle.numbering.specs.Counts.{SmallCounts}
use Rattle.kind_words.specs.Kind.{offset_inside}

pub small-counts : (C : Contract) → Established C → SmallCounts C.output.states C.transformation.counts
small-counts C known =
    record { states≥ = known.output_states.least≤; states≤ = known.output_states.≤most; procedures≤ = known.procedures.≤most; count≤ = known.count }

pub offsets_inside : (C : Contract) → Established C → (p : ℕ) → p < length C.transformation.counts
    → offset C.output.states C.transformation.counts p < most_facts
offsets_inside C known p h = offset_inside C known p h
