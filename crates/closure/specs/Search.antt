-- What a search of a list of kinds needs.
use Rattle.std.specs.Prelude.{◌≡◌, List, ℕ, ◌≤◌, length}
use denote.Struct.Props.{props}
use Rattle.model.specs.Tables.{Contract}
use Rattle.model.specs.Facts.{fact_total}
use Rattle.model.specs.Examining.{sent_count}
use Rattle.kind_masks.specs.Mask.{mask_of}
use Rattle.shown_kinds.specs.Chains.{Chained}

-- at most 4,096 kinds, the contract's mask, and the kinds in chains
pub record Searchable (C : Contract) (words mask chains : List ℕ) : Type 0 where
  pub few : length words ≤ 20480
  pub is_mask : mask ≡ mask_of C.input.states (fact_total C.output.states C.transformation.counts)
  pub chained : Chained words mask (sent_count words) chains

pub searchable-prop : (C : Contract) (words mask chains : List ℕ) → IsProp (Searchable C words mask chains)
searchable-prop C words mask chains = hlevel props
