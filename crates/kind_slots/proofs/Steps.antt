-- Steps from slot to slot, and how far it is to one that is not occupied.
use Rattle.std.proofs.Common.{◌≡◌, ℕ, ◌+◌, ◌-◌, ◌<◌, true, false, List, ap, ◌∙◌, arith}
use native.Mathlib.Decide.{dec_lt}
use Rattle.foundation.specs.Search.{first, first_at, first_hit, first_before, first_clear}
use Rattle.kind_slots.specs.Slots.{slot_after, is_free, steps_to_free}

-- every slot is some steps on
pub steps_to : (slot target : ℕ) → slot < 1024 → target < 1024 → (k : ℕ) × (k < 1024) × (slot_after slot k ≡ target)
steps_to slot target h l = go (dec_lt target slot)
  where
    go : Dec (target < slot) → (k : ℕ) × (k < 1024) × (slot_after slot k ≡ target)
    go (yes b) = (target + 1024 - slot, omega arith, omega arith)
    go (no b) = (target - slot, omega arith, omega arith)

module _ (slots : List ℕ) (slot : ℕ) where
  -- what ends a search that none of the slots before ends
  pub steps_are : (k : ℕ) → k < 1024 → ((j : ℕ) → j < k → is_free slots (slot_after slot j) ≡ false) → is_free slots (slot_after slot k) ≡ true
      → steps_to_free slots slot ≡ k
  unfolding steps_to_free
  steps_are k h none hit = first_at (λ j. is_free slots (slot_after slot j)) 1024 k h none hit

  pub before_free : (j : ℕ) → j < steps_to_free slots slot → is_free slots (slot_after slot j) ≡ false
  unfolding steps_to_free
  before_free j l = first_before (λ k. is_free slots (slot_after slot k)) 1024 j l

  pub free_there : steps_to_free slots slot < 1024 → is_free slots (slot_after slot (steps_to_free slots slot)) ≡ true
  unfolding steps_to_free
  free_there h = first_hit (λ k. is_free slots (slot_after slot k)) 1024 h

  -- where some slot is not occupied, one comes
  pub free_comes : slot < 1024 → (target : ℕ) → target < 1024 → is_free slots target ≡ true → steps_to_free slots slot < 1024
  unfolding steps_to_free
  free_comes h target l e = go (dec_lt (first (λ k. is_free slots (slot_after slot k)) 1024) 1024)
    where
      go : Dec (first (λ k. is_free slots (slot_after slot k)) 1024 < 1024) → first (λ k. is_free slots (slot_after slot k)) 1024 < 1024
      go (yes b) = b
      go (no b) =
          let (k, inside, there) = steps_to slot target h l in
          let clear : is_free slots (slot_after slot k) ≡ false = first_clear (λ j. is_free slots (slot_after slot j)) 1024 (omega arith) k inside in
          let hit : is_free slots (slot_after slot k) ≡ true = ap (is_free slots) there ∙ e in
          let z : ◌≡◌ {A = ℕ} 0 1 = cc in
          absurd (omega arith)
