-- Where the loops of a round stand, for a prepared contract, and what a stretch of them comes to, as the code says it.
use Rattle.std.specs.Prelude.{ℕ, suc, List, Result}
use Rattle.tables.specs.declared.Row.{Row}
use Rattle.prepared.specs.declared.Prepared.{Prepared}
use Rattle.prepared.specs.Contract.{contract_of}
use Rattle.kind_lists.specs.Outcomes.{Outcome}
use Rattle.kind_lists.specs.declared.Stop.{Stop}
use Rattle.round_pairs.specs.declared.Place.{Place}
use Rattle.round_pairs.specs.declared.Round.{Round}
use Rattle.round_pairs.specs.Steps.{LeftsMarked, RightsMarked, At}

module _ (p : Prepared) (r : Round) where
  -- the loops stand at a pair, where so many rows are listed
  abbrev pub OverPair : Row → (n : ℕ) (slots rows words : List ℕ) → Type 0
  OverPair pair n slots rows words = At (contract_of p) r pair.symbol.0 pair.left pair.right n slots rows words

  -- they stand at a place, before its first right row
  abbrev pub Stands : Place → (slots rows words : List ℕ) → Type 0
  Stands w slots rows words = At (contract_of p) r w.symbol.0 w.left 0 w.count slots rows words

  -- .. before the first pair
  abbrev pub Starts : (slots rows words : List ℕ) → Type 0
  Starts slots rows words = At (contract_of p) r 1 0 0 r.stood slots rows words

  -- they come to symbol s over rows i and j, or the answer is known
  abbrev pub Comes : (s i j : ℕ) (slots rows words : List ℕ) → Result ℕ Stop → Type 0
  Comes s i j slots rows words = Outcome (contract_of p) (λ n. At (contract_of p) r s i j n slots rows words) r.limit (suc r.height) rows words

  -- all rows of the round have their marks
  abbrev pub AllMarked : (lefts rights : List ℕ) → Type 0
  AllMarked lefts rights = LeftsMarked (contract_of p) r.stood lefts × RightsMarked (contract_of p) r.stood rights
