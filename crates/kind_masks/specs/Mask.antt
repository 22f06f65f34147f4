-- The bits of a kind that stand for a state, a mark or a fact.
use Rattle.std.specs.Prelude.{List, [], ◌∷◌, ℕ, ◌-◌, ◌^◌, min}
use Rattle.model.proofs.Laws.Masked.{state_mask}

-- a one for each fact from a fact on, at most 64
abbrev pub ones_from : (facts from : ℕ) → ℕ
ones_from facts from = 2 ^ min 64 (facts - from) - 1

-- the five words, and a sixth word 0, as code hands kinds on
abbrev pub mask_of : (states facts : ℕ) → List ℕ
mask_of states facts = state_mask states ∷ ones_from facts 0 ∷ ones_from facts 64 ∷ ones_from facts 128 ∷ ones_from facts 192 ∷ 0 ∷ []
