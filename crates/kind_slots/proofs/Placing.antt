-- Where the rows of a list stand in its slots: each some steps on from the first slot of its kind, behind occupied ones alone.
use Rattle.std.proofs.Common.{◌≡◌, ℕ, zero, suc, ◌/◌, ◌^◌, ◌<◌, ◌≤◌, Bool, true, false, eqb, List, length, get_or, set, replicate, sym, ap, ◌∙◌, subst, arith, length-set, get_or-set_other, get_or-set_same, eq-eqb, ne_eqb}
use native.Mathlib.Decide.{ℕ_discrete, dec_lt}
use lib.ListN.{length-replicate, get_or-replicate, get_or-eq_default}
use Rattle.kind_slots.specs.Stored.{padded_kind}
use Rattle.kind_slots.specs.Slots.{first_slot, slot_after, fingerprint, entry_of, row_of, is_free, steps_to_free, entering, slots_of, occupied}
use Rattle.kind_slots.proofs.Steps.{before_free, free_there, free_comes}
use Rattle.kind_slots.proofs.Free.{some_free, one_more, none_occupied}

-- an entry is not 0, and its row and fingerprint are read back
pub entry_some : (kind : List ℕ) (row : ℕ) → entry_of kind row ≡ 0 → ⊥
entry_some kind row e = omega arith

pub entry_row : (kind : List ℕ) (row : ℕ) → row < 512 → row_of (entry_of kind row) ≡ row
entry_row kind row h = omega arith

pub entry_print : (kind : List ℕ) (row : ℕ) → row < 512 → entry_of kind row / 2 ^ 10 ≡ fingerprint kind
entry_print kind row h = omega arith

-- true is not false
pub opposed : {b : Bool} → b ≡ true → b ≡ false → ⊥
opposed t f = let z : ◌≡◌ {A = ℕ} 0 1 = cc in omega arith

-- row j stands in the slots, behind occupied ones
pub record Placed (words slots : List ℕ) (j : ℕ) : Type 0 where
  pub steps : ℕ
  pub there : get_or slots (slot_after (first_slot (padded_kind words j)) steps) 0 ≡ entry_of (padded_kind words j) j
  pub behind : (k : ℕ) → k < steps → is_free slots (slot_after (first_slot (padded_kind words j)) k) ≡ false

-- a slot has the entry of a row below n
pub record Names (words : List ℕ) (n entry : ℕ) : Type 0 where
  pub row : ℕ
  pub inside : row < n
  pub is : entry ≡ entry_of (padded_kind words row) row

-- the slots have the first n rows, each once
pub record Holding (words : List ℕ) (n : ℕ) (slots : List ℕ) : Type 0 where
  pub long : length slots ≡ 1024
  pub counted : occupied slots ≡ n
  pub names : (slot : ℕ) → is_free slots slot ≡ false → Names words n (get_or slots slot 0)
  pub placed : (j : ℕ) → j < n → Placed words slots j

-- from any slot on an unoccupied one comes
pub comes_free : (slots : List ℕ) → length slots ≡ 1024 → occupied slots < 1024 → (slot : ℕ) → slot < 1024 → steps_to_free slots slot < 1024
comes_free slots long few slot h =
    let (target, inside, free) = some_free slots (omega arith) in
    free_comes slots slot h target (omega arith) free

zeros : (n slot : ℕ) → ◌≡◌ {A = ℕ} (get_or (replicate n 0) slot 0) 0
zeros n slot = go (dec_lt slot n)
  where
    go : Dec (slot < n) → ◌≡◌ {A = ℕ} (get_or (replicate n 0) slot 0) 0
    go (yes l) = get_or-replicate n slot 0 0 l
    go (no l) = get_or-eq_default (replicate n 0) 0 (rw (length-replicate {A = ℕ} n 0) (omega arith))

-- nothing is entered
none_held : (words : List ℕ) → Holding words 0 (replicate 1024 0)
none_held words =
    record {
      long = length-replicate {A = ℕ} 1024 0;
      counted = none_occupied 1024;
      names = λ slot e. absurd (opposed (eq-eqb _ _ (zeros 1024 slot)) e);
      placed = λ j l. absurd (omega arith);
    }

module _ (words : List ℕ) (n : ℕ) (few : n < 512) (slots : List ℕ) (h : Holding words n slots) where
  abbrev kind : List ℕ
  kind = padded_kind words n

  abbrev at : ℕ
  at = slot_after (first_slot kind) (steps_to_free slots (first_slot kind))

  abbrev after : List ℕ
  after = set slots at (entry_of kind n)

  at_free : is_free slots at ≡ true
  at_free = free_there slots (first_slot kind) (comes_free slots h.long (omega (arith, h.counted)) (first_slot kind) (omega arith))

  at_inside : at < length slots
  at_inside = omega (arith, h.long)

  -- occupied slots keep what they have
  kept : (slot : ℕ) → is_free slots slot ≡ false → get_or after slot 0 ≡ get_or slots slot 0
  kept slot e = get_or-set_other slots at slot (entry_of kind n) 0 (λ q. opposed at_free (ap (is_free slots) (sym q) ∙ e))

  kept_occupied : (slot : ℕ) → is_free slots slot ≡ false → is_free after slot ≡ false
  kept_occupied slot e = ap (λ (x : ℕ). eqb x 0) (kept slot e) ∙ e

  names_more : (slot : ℕ) → is_free after slot ≡ false → Names words (suc n) (get_or after slot 0)
  names_more slot e = go (ℕ_discrete slot at)
    where
      go : Dec (slot ≡ at) → Names words (suc n) (get_or after slot 0)
      go (yes q) = record { row = n; inside = omega arith; is = ap (λ (i : ℕ). get_or after i 0) q ∙ get_or-set_same slots at (entry_of kind n) 0 at_inside }
      go (no q) =
          let same : get_or after slot 0 ≡ get_or slots slot 0 = get_or-set_other slots at slot (entry_of kind n) 0 q in
          let old = h.names slot (ap (λ (x : ℕ). eqb x 0) (sym same) ∙ e) in
          record { row = old.row; inside = omega (arith, old.inside); is = same ∙ old.is }

  placed_more : (j : ℕ) → j < suc n → Placed words after j
  placed_more j l = go (ℕ_discrete j n)
    where
      here : Placed words after n
      here =
          record {
            steps = steps_to_free slots (first_slot kind);
            there = get_or-set_same slots at (entry_of kind n) 0 at_inside;
            behind = λ k b. kept_occupied (slot_after (first_slot kind) k) (before_free slots (first_slot kind) k b);
          }

      go : Dec (j ≡ n) → Placed words after j
      go (yes q) = subst (λ (i : ℕ). Placed words after i) (sym q) here
      go (no q) =
          let old = h.placed j (omega arith) in
          let filled : is_free slots (slot_after (first_slot (padded_kind words j)) old.steps) ≡ false =
          ap (λ (x : ℕ). eqb x 0) old.there ∙ ne_eqb _ 0 (entry_some (padded_kind words j) j) in
          record { steps = old.steps; there = kept _ filled ∙ old.there; behind = λ k b. kept_occupied _ (old.behind k b) }

  one_held : Holding words (suc n) after
  one_held =
      record {
        long = length-set slots at (entry_of kind n) ∙ h.long;
        counted = one_more slots at (entry_of kind n) at_inside at_free (entry_some kind n) ∙ ap suc h.counted;
        names = names_more;
        placed = placed_more;
      }

pub slots_hold : (words : List ℕ) (n : ℕ) → n ≤ 512 → Holding words n (slots_of words n)
unfolding slots_of entering
slots_hold words zero few = none_held words
slots_hold words (suc n) few = one_held words n few (slots_of words n) (slots_hold words n (omega arith))
