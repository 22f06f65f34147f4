-- What the first round, a later one and all rounds of a prepared contract come to, as the code says it.
use Rattle.std.specs.Prelude.{ℕ, List, Result, Ok, Err}
use Rattle.model.specs.Tables.{Contract}
use Rattle.prepared.specs.declared.Prepared.{Prepared}
use Rattle.prepared.specs.Contract.{contract_of}
use Rattle.masks.specs.declared.Masked.{Masked}
use Rattle.kind_lists.specs.Outcomes.{ListStops, EndOfList}
use Rattle.kind_lists.specs.declared.ListStop.{ListStop}
use Rattle.round_pairs.specs.Steps.{At}
use Rattle.round_pairs.specs.declared.Round.{Round}
use Rattle.rounds.specs.Between.{Between}

-- there is more to do with the list of n rows, or the list ends
abbrev pub GoesOn : (C : Contract) (Going : ℕ → Type 0) (limit : ℕ) (rows words : List ℕ) → Result ℕ ListStop → Type 0
GoesOn C Going limit rows words (Ok n) = Going n
GoesOn C Going limit rows words (Err why) = ListStops C limit rows words why

-- round 0 is listed
abbrev pub Begun : (p : Prepared) (limit : ℕ) (slots rows words : List ℕ) → Result ℕ ListStop → Type 0
Begun p limit slots rows words = GoesOn (contract_of p) (λ n. Between (contract_of p) limit 0 0 n slots rows words) limit rows words

-- a round is listed
abbrev pub Grows : (p : Prepared) (r : Round) (slots rows words : List ℕ) → Result ℕ ListStop → Type 0
Grows p r slots rows words = GoesOn (contract_of p) (λ n. At (contract_of p) r p.parts.symbols 0 0 n slots rows words) r.limit rows words

-- the list ends
abbrev pub Lists : (m : Masked) (limit : ℕ) (rows words : List ℕ) → Result ℕ ListStop → Type 0
Lists m limit rows words = EndOfList (contract_of m.prepared) limit rows words
