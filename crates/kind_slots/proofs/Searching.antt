-- A search by the slots, step by step: what it has passed, where it ends, and that it comes nearer to an unoccupied slot.
use Rattle.std.proofs.Common.{◌≡◌, ℕ, zero, suc, ◌+◌, ◌-◌, ◌*◌, ◌/◌, ◌%◌, ◌^◌, ◌<◌, min, Bool, true, false, ◌||◌, eqb, List, get_or, sym, refl, ap, ◌∙◌, subst, ap₂, arith, eq-eqb, ne_eqb, eqb-true}
use native.Mathlib.Decide.{ℕ_discrete, dec_lt}
use lib.Bits.{bit_and, and_step, and_zero_l, and_zero_r, and_block}
use Rattle.foundation.specs.Search.{first_at, first_before}
use Rattle.kind_slots.specs.Stored.{same_kind}
use Rattle.kind_slots.specs.Slots.{weighted_sum, print_of, first_slot, slot_after, fingerprint, row_of, is_free, steps_to_free, others_of, steps_past, ends_at, slot_of, EntryStands, HalfFree, Searchable}
use Rattle.kind_slots.proofs.Same.{same_alike, alike_weighted}
use Rattle.kind_slots.proofs.Steps.{free_there}
use Rattle.kind_slots.proofs.Placing.{opposed, comes_free}
use Rattle.kind_slots.proofs.Finding.{or_known, or_other}

-- a number and what it lacks to all bits set have no bit in common
no_common : (k p : ℕ) → p < 2 ^ k → bit_and p (2 ^ k - 1 - p) ≡ 0
no_common zero p h = let z : p ≡ 0 = omega arith in rw z (and_zero_l (2 ^ 0 - 1 - 0))
no_common (suc k) p h =
    let twice : 2 ^ suc k ≡ 2 * 2 ^ k = omega arith in
    let halves : (2 ^ suc k - 1 - p) / 2 ≡ 2 ^ k - 1 - p / 2 = omega arith in
    let ends : min (p % 2) ((2 ^ suc k - 1 - p) % 2) ≡ 0 = omega arith in
    and_step p (2 ^ suc k - 1 - p) ∙ rw (halves, ends, no_common k (p / 2) (omega arith))

print_few : (kind : List ℕ) → fingerprint kind < 2 ^ 22
print_few kind = omega arith

-- the other bits, as code comes to them
pub others_are : (kind : List ℕ) {sum print others : ℕ} → sum ≡ weighted_sum kind → print ≡ print_of sum → others ≡ others_of print
    → others ≡ others_of (fingerprint kind)
others_are kind p q r = r ∙ ap others_of (q ∙ ap print_of p)

-- an entry of this kind has none of them
same_none : (words : List ℕ) (entry : ℕ) (kind : List ℕ) → EntryStands words entry → same_kind words (row_of entry) kind ≡ true
    → bit_and entry (others_of (fingerprint kind)) ≡ 0
same_none words entry kind s e =
    let print : entry / 2 ^ 10 ≡ fingerprint kind = s.printed ∙ ap print_of (alike_weighted _ _ (same_alike _ _ e)) in
    let parts : entry ≡ fingerprint kind * 2 ^ 10 + entry % 2 ^ 10 = omega arith in
    let others : others_of (fingerprint kind) ≡ (2 ^ 22 - 1 - fingerprint kind) * 2 ^ 10 + 0 = omega arith in
    ap₂ bit_and parts others
    ∙ and_block 10 (fingerprint kind) (2 ^ 22 - 1 - fingerprint kind) (entry % 2 ^ 10) 0 (omega arith) (omega arith)
    ∙ rw (no_common 22 (fingerprint kind) (print_few kind), and_zero_r (entry % 2 ^ 10))

-- a second test that holds
or_second : (a : Bool) {b : Bool} → b ≡ true → (a || b) ≡ true
or_second true e = refl
or_second false e = e

-- a free slot has none of any bits
free_none : (slots : List ℕ) (slot others : ℕ) → is_free slots slot ≡ true → eqb (bit_and (get_or slots slot 0) others) 0 ≡ true
free_none slots slot others e =
    ap (λ (x : ℕ). eqb (bit_and x others) 0) (eqb-true (get_or slots slot 0) 0 e) ∙ eq-eqb (bit_and 0 others) 0 (and_zero_l others)

-- from a place on, the slots of the first k places have some of these bits
abbrev pub Past : (slots : List ℕ) (from others : ℕ) → ℕ → Type 0
Past slots from others k = (j : ℕ) → j < k → eqb (bit_and (get_or slots (slot_after from j) 0) others) 0 ≡ false

pub steps-past : (slots : List ℕ) (from others : ℕ) → Past slots from others (steps_past slots from others)
unfolding steps_past
steps-past slots from others j l = first_before (λ k. eqb (bit_and (get_or slots (slot_after from k) 0) others) 0) 1024 j l

-- slots are gone through from a place on, up to here
pub record Along (slots : List ℕ) (from others place : ℕ) : Type 0 where
  pub steps : ℕ
  pub placed : place ≡ from + steps
  pub past : Past slots from others steps

pub along_none : (slots : List ℕ) (from others : ℕ) → Along slots from others from
along_none slots from others = record { steps = 0; placed = omega arith; past = λ j l. absurd (omega arith) }

module _ (slots : List ℕ) (half : HalfFree slots) (from others : ℕ) where
  past_few : (k : ℕ) → Past slots from others k → k < 1024
  past_few k past = go (dec_lt k 1024)
    where
      free : steps_to_free slots (from % 1024) < 1024
      free = comes_free slots half.long (omega (arith, half.few)) (from % 1024) (omega arith)

      same : slot_after (from % 1024) (steps_to_free slots (from % 1024)) ≡ slot_after from (steps_to_free slots (from % 1024))
      same = omega arith

      none : eqb (bit_and (get_or slots (slot_after from (steps_to_free slots (from % 1024))) 0) others) 0 ≡ true
      none = free_none slots (slot_after from (steps_to_free slots (from % 1024))) others (ap (is_free slots) (sym same) ∙ free_there slots (from % 1024) free)

      go : Dec (k < 1024) → k < 1024
      go (yes l) = l
      go (no l) = absurd (opposed none (past (steps_to_free slots (from % 1024)) (omega (arith, free))))

  module _ {place : ℕ} (along : Along slots from others place) where
    pub along_few : place < from + 1024
    along_few = omega (arith, along.placed, past_few along.steps along.past)

    -- what the slot of this place has
    module _ {slot entry : ℕ} (here : slot ≡ place % 1024) (read : entry ≡ get_or slots slot 0) where
      entry_here : entry ≡ get_or slots (slot_after from along.steps) 0
      entry_here = read ∙ ap (λ (i : ℕ). get_or slots i 0) (omega (arith, along.placed))

      pub along_more : (bit_and entry others ≡ 0 → ⊥) → Along slots from others (place + 1)
      along_more some = record { steps = along.steps + 1; placed = omega (arith, along.placed); past = λ j l. go j l (ℕ_discrete j along.steps) }
        where
          go : (j : ℕ) → j < along.steps + 1 → Dec (j ≡ along.steps) → eqb (bit_and (get_or slots (slot_after from j) 0) others) 0 ≡ false
          go j l (yes q) = rw q (ne_eqb _ 0 (λ z. some (ap (λ (x : ℕ). bit_and x others) entry_here ∙ z)))
          go j l (no q) = along.past j (omega arith)

      pub along_ends : bit_and entry others ≡ 0 → place ≡ from + steps_past slots from others
      unfolding steps_past
      along_ends none =
          along.placed
          ∙ ap (λ (k : ℕ). from + k)
          (sym
          (first_at (λ j. eqb (bit_and (get_or slots (slot_after from j) 0) others) 0) 1024 along.steps (past_few along.steps along.past) along.past
          (eq-eqb _ _ (sym (ap (λ (x : ℕ). bit_and x others) entry_here) ∙ none))))

module _ (words slots kind : List ℕ) where
  -- none of the first k slots of the search ends it
  abbrev pub NoneEnds : ℕ → Type 0
  NoneEnds k = (j : ℕ) → j < k → ends_at words slots kind (slot_after (first_slot kind) j) ≡ false

  -- the search stands at a place, and has read the entry there
  pub record Reached (place entry : ℕ) : Type 0 where
    pub steps : ℕ
    pub placed : place ≡ first_slot kind + steps
    pub read : entry ≡ get_or slots (slot_after (first_slot kind) steps) 0
    pub passed : NoneEnds steps

  -- .. which is what the place's slot has
  pub read_here : {place slot entry : ℕ} → Reached place (get_or slots (place % 1024) 0) → slot ≡ place % 1024 → entry ≡ get_or slots slot 0 → Reached place entry
  read_here {place} reached here read = subst (Reached place) (sym (read ∙ ap (λ (i : ℕ). get_or slots i 0) here)) reached

module _ (words slots kind : List ℕ) (s : Searchable words slots) where
  pub passed_few : (k : ℕ) → NoneEnds words slots kind k → k < 1024
  passed_few k passed = go (dec_lt k 1024)
    where
      free : steps_to_free slots (first_slot kind) < 1024
      free = comes_free slots s.half.long (omega (arith, s.half.few)) (first_slot kind) (omega arith)

      go : Dec (k < 1024) → k < 1024
      go (yes l) = l
      go (no l) = absurd (opposed (or_known _ (free_there slots (first_slot kind) free)) (passed (steps_to_free slots (first_slot kind)) (omega (arith, free))))

  -- the search ends
  ends_here : (k : ℕ) → NoneEnds words slots kind k → ends_at words slots kind (slot_after (first_slot kind) k) ≡ true → slot_after (first_slot kind) k ≡ slot_of words slots kind
  unfolding slot_of
  ends_here k passed e =
      ap (slot_after (first_slot kind)) (sym (first_at (λ j. ends_at words slots kind (slot_after (first_slot kind) j)) 1024 k (passed_few k passed) passed e))

  -- a slot that has some of the other bits does not end it
  goes_on : (slot : ℕ) → eqb (bit_and (get_or slots slot 0) (others_of (fingerprint kind))) 0 ≡ false → ends_at words slots kind slot ≡ false
  goes_on slot some = go (is_free slots slot) refl (same_kind words (row_of (get_or slots slot 0)) kind) refl
    where
      go : (a : Bool) → is_free slots slot ≡ a → (b : Bool) → same_kind words (row_of (get_or slots slot 0)) kind ≡ b → (a || b) ≡ false
      go true e b q = absurd (opposed (free_none slots slot (others_of (fingerprint kind)) e) some)
      go false e true q = absurd (opposed (eq-eqb _ _ (same_none words (get_or slots slot 0) kind (s.stands slot e) q)) some)
      go false e false q = refl

  -- so many slots that do not end it are passed at once
  passed_on : (k d from others : ℕ) → NoneEnds words slots kind k → from ≡ first_slot kind + k → others ≡ others_of (fingerprint kind)
      → Past slots from others d
      → NoneEnds words slots kind (k + d)
  passed_on k d from others passed p q past j l = go (dec_lt j k)
    where
      go : Dec (j < k) → ends_at words slots kind (slot_after (first_slot kind) j) ≡ false
      go (yes b) = passed j b
      go (no b) =
          let there : slot_after from (j - k) ≡ slot_after (first_slot kind) j = omega arith in
          rw there at
          (goes_on (slot_after from (j - k))
          (ap (λ (o : ℕ). eqb (bit_and (get_or slots (slot_after from (j - k)) 0) o) 0) (sym q) ∙ past (j - k) (omega arith)))

  -- the search comes to the next slot that may end it
  pub reached_past : {from : ℕ} (k : ℕ) → NoneEnds words slots kind k → from ≡ first_slot kind + k
      → {others place slot entry : ℕ} → others ≡ others_of (fingerprint kind) → place ≡ from + steps_past slots from others → slot ≡ place % 1024 → entry ≡ get_or slots slot 0
      → Reached words slots kind place entry
  reached_past {from} k passed p {others} q r t e =
      record {
        steps = k + steps_past slots from others;
        placed = omega arith;
        read = e ∙ ap (λ (i : ℕ). get_or slots i 0) (omega arith);
        passed = passed_on k (steps_past slots from others) from others passed p q (steps-past slots from others);
      }

  -- .. the first one
  pub reached_first : {from others place slot entry : ℕ} → from ≡ first_slot kind → others ≡ others_of (fingerprint kind) → place ≡ from + steps_past slots from others → slot ≡ place % 1024
      → entry ≡ get_or slots slot 0
      → Reached words slots kind place entry
  reached_first p = reached_past 0 (λ j l. absurd (omega arith)) (omega arith)

  module _ {place entry : ℕ} (reached : Reached words slots kind place entry) where
    same_slot : place % 1024 ≡ slot_after (first_slot kind) reached.steps
    same_slot = omega (arith, reached.placed)

    pub reached_few : place < first_slot kind + 1024
    reached_few = omega (arith, reached.placed, passed_few reached.steps reached.passed)

    occupied_here : (entry ≡ 0 → ⊥) → is_free slots (slot_after (first_slot kind) reached.steps) ≡ false
    occupied_here some = ne_eqb _ 0 (λ z. some (reached.read ∙ z))

    pub reached_stands : (entry ≡ 0 → ⊥) → EntryStands words entry
    reached_stands some = subst (λ (x : ℕ). EntryStands words x) (sym reached.read) (s.stands (slot_after (first_slot kind) reached.steps) (occupied_here some))

    -- the search ends at a row of this kind
    pub ends_at_row : same_kind words (row_of entry) kind ≡ true → place % 1024 ≡ slot_of words slots kind
    ends_at_row e =
        same_slot
        ∙ ends_here reached.steps reached.passed
        (or_second (is_free slots (slot_after (first_slot kind) reached.steps)) (sym (ap (λ (x : ℕ). same_kind words (row_of x) kind) reached.read) ∙ e))

    -- .. or at an unoccupied slot
    pub ends_at_free : entry ≡ 0 → place % 1024 ≡ slot_of words slots kind
    ends_at_free z = same_slot ∙ ends_here reached.steps reached.passed (or_known _ (eq-eqb _ 0 (sym reached.read ∙ z)))

    -- or goes on behind a row of another kind
    pub passed_row : (entry ≡ 0 → ⊥) → same_kind words (row_of entry) kind ≡ false → NoneEnds words slots kind (reached.steps + 1)
    passed_row some e j l = go (ℕ_discrete j reached.steps)
      where
        go : Dec (j ≡ reached.steps) → ends_at words slots kind (slot_after (first_slot kind) j) ≡ false
        go (yes q) = rw q (or_other _ (occupied_here some) ∙ sym (ap (λ (x : ℕ). same_kind words (row_of x) kind) reached.read) ∙ e)
        go (no q) = reached.passed j (omega arith)

    pub reached-next : (entry ≡ 0 → ⊥) → same_kind words (row_of entry) kind ≡ false
        → {others place' slot entry' : ℕ} → others ≡ others_of (fingerprint kind) → place' ≡ place + 1 + steps_past slots (place + 1) others → slot ≡ place' % 1024 → entry' ≡ get_or slots slot 0
        → Reached words slots kind place' entry'
    reached-next some e = reached_past (reached.steps + 1) (passed_row some e) (omega (arith, reached.placed))
