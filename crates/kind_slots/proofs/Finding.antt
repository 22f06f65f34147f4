-- The slots of a list find what a search of the list finds, and stay its slots when a row is added.
use Rattle.std.proofs.Common.{◌≡◌, ℕ, zero, suc, ◌+◌, ◌*◌, ◌/◌, ◌%◌, ◌^◌, ◌<◌, ◌≤◌, Bool, true, false, not, ◌||◌, eqb, List, length, get_or, set, replicate, sym, refl, ap, ◌∙◌, subst, add-one, arith, ltb-false, le-ltb, lt-ltb, ne_eqb}
use native.Mathlib.Decide.{ℕ_discrete, dec_lt}
use Rattle.foundation.specs.Tests.{choose}
use Rattle.foundation.specs.Search.{first, first_at, first_none, first_hit, first_before, first_clear}
use Rattle.kind_slots.specs.Stored.{padded_kind, same_kind, kind_place, kind_listed, with_kind}
use Rattle.kind_slots.specs.Slots.{first_slot, slot_after, fingerprint, entry_of, row_of, is_free, steps_to_free, entering, slots_of, ends_at, slot_of, row_in, EntryStands, Searchable, Entered}
use Rattle.kind_slots.proofs.Same.{Alike, same_alike, same_as, same_to, alike_sum, alike_weighted, row_before_stored, row_stored}
use Rattle.kind_slots.proofs.Steps.{steps_are, free_there}
use Rattle.kind_slots.proofs.Placing.{entry_some, entry_row, entry_print, opposed, Holding, comes_free, slots_hold}

-- either test, where one is known
pub or_known : {a : Bool} (b : Bool) → a ≡ true → (a || b) ≡ true
or_known b e = rw e

pub or_other : {a : Bool} (b : Bool) → a ≡ false → (a || b) ≡ b
or_other b e = rw e

-- both tests fail where one of them would
pub neither : (a b : Bool) → (a || b) ≡ false → (a ≡ false) × (b ≡ false)
neither true b e = (e, absurd (opposed refl e))
neither false b e = (refl, e)

-- the search ends at one of the slots
pub slot_few : (words slots kind : List ℕ) → slot_of words slots kind < 1024
unfolding slot_of
slot_few words slots kind = omega arith

module _ (words : List ℕ) (n : ℕ) (slots : List ℕ) (h : Entered words n slots) where
  held : Holding words n slots
  held = subst (λ (l : List ℕ). Holding words n l) (sym h.slots_are) (slots_hold words n h.few)

  -- such slots can be searched
  pub searchable : 5 * n ≤ length words → Searchable words slots
  searchable room = record { half = record { long = held.long; few = omega (arith, held.counted, h.few) }; stands = stands }
    where
      stands : (slot : ℕ) → is_free slots slot ≡ false → EntryStands words (get_or slots slot 0)
      stands slot e =
          let name = held.names slot e in
          let small : name.row < 512 = omega (arith, name.inside, h.few) in
          let row : row_of (get_or slots slot 0) ≡ name.row = ap row_of name.is ∙ entry_row (padded_kind words name.row) name.row small in
          record {
            inside = omega (arith, name.inside);
            printed =
                ap (λ (x : ℕ). x / 2 ^ 10) name.is
                ∙ entry_print (padded_kind words name.row) name.row small
                ∙ ap (λ (j : ℕ). fingerprint (padded_kind words j)) (sym row);
          }

  module _ (kind : List ℕ) where
    abbrev ends : ℕ → Bool
    ends k = ends_at words slots kind (slot_after (first_slot kind) k)

    abbrev last : ℕ
    last = first ends 1024

    abbrev free : ℕ
    free = steps_to_free slots (first_slot kind)

    free_few : free < 1024
    free_few = comes_free slots held.long (omega (arith, held.counted, h.few)) (first_slot kind) (omega arith)

    -- the search ends
    last_few : last < 1024
    last_few = go (dec_lt last 1024)
      where
        go : Dec (last < 1024) → last < 1024
        go (yes l) = l
        go (no l) =
            absurd
            (opposed {b = ends free} (or_known _ (free_there slots (first_slot kind) free_few))
            (first_clear ends 1024 (omega arith) free free_few))

    -- a row of this kind is found before an unoccupied slot comes
    missed : is_free slots (slot_after (first_slot kind) last) ≡ true → (j : ℕ) → j < n → same_kind words j kind ≡ false
    missed e j l = go (same_kind words j kind) refl
      where
        go : (b : Bool) → same_kind words j kind ≡ b → b ≡ false
        go false q = refl
        go true q =
            let place = held.placed j l in
            let start : first_slot (padded_kind words j) ≡ first_slot kind = ap (λ (s : ℕ). s % 1024) (alike_sum _ _ (same_alike _ _ q)) in
            let there : get_or slots (slot_after (first_slot kind) place.steps) 0 ≡ entry_of (padded_kind words j) j =
            ap (λ (f : ℕ). get_or slots (slot_after f place.steps) 0) (sym start) ∙ place.there in
            let filled : is_free slots (slot_after (first_slot kind) place.steps) ≡ false =
            ap (λ (x : ℕ). eqb x 0) there ∙ ne_eqb _ 0 (entry_some (padded_kind words j) j) in
            let same : same_kind words (row_of (get_or slots (slot_after (first_slot kind) place.steps) 0)) kind ≡ true =
            ap (λ (i : ℕ). same_kind words i kind) (ap row_of there ∙ entry_row (padded_kind words j) j (omega (arith, h.few))) ∙ q in
            by_steps (dec_lt place.steps last) (ℕ_discrete place.steps last) filled same
            (λ k b. ap (λ (f : ℕ). is_free slots (slot_after f k)) (sym start) ∙ place.behind k b)
          where
            by_steps : {d : ℕ} → Dec (d < last) → Dec (d ≡ last) → is_free slots (slot_after (first_slot kind) d) ≡ false
                → same_kind words (row_of (get_or slots (slot_after (first_slot kind) d) 0)) kind ≡ true
                → ((k : ℕ) → k < d → is_free slots (slot_after (first_slot kind) k) ≡ false)
                → true ≡ false
            by_steps {d} (yes a) _ filled same behind = absurd (opposed {b = ends d} (or_other _ filled ∙ same) (first_before ends 1024 d a))
            by_steps {d} (no a) (yes b) filled same behind = absurd (opposed e (ap (λ (k : ℕ). is_free slots (slot_after (first_slot kind) k)) (sym b) ∙ filled))
            by_steps {d} (no a) (no b) filled same behind = absurd (opposed e (behind last (omega arith)))

    -- an occupied slot at the end has the only row of this kind
    hit : is_free slots (slot_after (first_slot kind) last) ≡ false
        → (row_of (get_or slots (slot_after (first_slot kind) last) 0) < n) × (kind_place words n kind ≡ row_of (get_or slots (slot_after (first_slot kind) last) 0))
    unfolding kind_place
    hit e =
        let name = held.names (slot_after (first_slot kind) last) e in
        let row : row_of (get_or slots (slot_after (first_slot kind) last) 0) ≡ name.row =
        ap row_of name.is ∙ entry_row (padded_kind words name.row) name.row (omega (arith, name.inside, h.few)) in
        let same : same_kind words name.row kind ≡ true =
        ap (λ (i : ℕ). same_kind words i kind) (sym row) ∙ sym (or_other _ e) ∙ first_hit ends 1024 last_few in
        (omega (arith, name.inside), first_at (λ j. same_kind words j kind) n name.row name.inside (λ j l. other j name.row l name.inside same) same ∙ sym row)
      where
        other : (i j : ℕ) → i < j → j < n → same_kind words j kind ≡ true → same_kind words i kind ≡ false
        other i j l inside same = sym (same_as (padded_kind words i) (padded_kind words j) kind (same_alike _ _ same)) ∙ h.distinct i j l inside

    -- "They find exactly what a search of the list finds."
    pub slots_find : row_in slots (slot_of words slots kind) n ≡ kind_place words n kind
    unfolding slot_of kind_place
    slots_find = go (is_free slots (slot_after (first_slot kind) last)) refl
      where
        none : is_free slots (slot_after (first_slot kind) last) ≡ true → n ≡ kind_place words n kind
        none e = sym (first_none (λ j. same_kind words j kind) n (missed e))

        go : (b : Bool) → is_free slots (slot_after (first_slot kind) last) ≡ b
            → choose (is_free slots (slot_after (first_slot kind) last)) n (row_of (get_or slots (slot_after (first_slot kind) last) 0)) ≡ kind_place words n kind
        go true e = rw e (none e)
        go false e = rw e (sym (hit e).1)

    -- so whether the slot at the end is occupied tells whether the kind is listed
    pub slots_tell : not (is_free slots (slot_of words slots kind)) ≡ kind_listed words n kind
    unfolding slot_of
    slots_tell = go (is_free slots (slot_after (first_slot kind) last)) refl
      where
        found : row_in slots (slot_after (first_slot kind) last) n ≡ kind_place words n kind
        found = slots_find

        go : (b : Bool) → is_free slots (slot_after (first_slot kind) last) ≡ b → not (is_free slots (slot_after (first_slot kind) last)) ≡ kind_listed words n kind
        go true e = rw e (sym (le-ltb (kind_place words n kind) n (omega (arith, rw e at found))))
        go false e = rw e (sym (lt-ltb (kind_place words n kind) n (omega (arith, (hit e).0, (hit e).1))))

    -- for a kind that is not listed the search ends where its row enters
    pub ends_where_entered : kind_listed words n kind ≡ false → slot_of words slots kind ≡ slot_after (first_slot kind) free
    unfolding slot_of
    ends_where_entered t = go (is_free slots (slot_after (first_slot kind) last)) refl
      where
        go : (b : Bool) → is_free slots (slot_after (first_slot kind) last) ≡ b → slot_after (first_slot kind) last ≡ slot_after (first_slot kind) free
        go true e =
            ap (slot_after (first_slot kind))
            (sym (steps_are slots (first_slot kind) last last_few (λ j l. (neither _ _ (first_before ends 1024 j l)).0) e))
        go false e = absurd (opposed (lt-ltb (kind_place words n kind) n (omega (arith, (hit e).0, (hit e).1))) t)

-- the slots of a list depend on its rows alone
entering_alike : (slots a b : List ℕ) (row : ℕ) → Alike a b → entering slots a row ≡ entering slots b row
unfolding entering
entering_alike slots a b row h = rw (alike_sum a b h, alike_weighted a b h)

slots_agree : (a b : List ℕ) (n : ℕ) → ((j : ℕ) → j < n → Alike (padded_kind a j) (padded_kind b j)) → slots_of a n ≡ slots_of b n
unfolding slots_of
slots_agree a b zero same = refl
slots_agree a b (suc n) same =
    ap (λ (l : List ℕ). entering l (padded_kind a n) n) (slots_agree a b n (λ j l. same j (omega arith)))
    ∙ entering_alike (slots_of b n) (padded_kind a n) (padded_kind b n) n (same n (omega arith))

-- nothing is entered
pub none_entered : (words : List ℕ) → Entered words 0 (replicate 1024 0)
unfolding slots_of
none_entered words = record { few = omega arith; distinct = λ i j l k. absurd (omega arith); slots_are = refl }

-- a row of a new kind is added: it is stored, and entered where its search ended
pub one_entered : (words : List ℕ) (n : ℕ) (slots kind : List ℕ) → Entered words n slots → n < 512 → 5 * n + 5 ≤ length words
    → kind_listed words n kind ≡ false
    → Entered (with_kind words n kind) (n + 1) (set slots (slot_of words slots kind) (entry_of kind n))
unfolding slots_of entering kind_place
one_entered words n slots kind h few room t =
    rw (add-one n)
    (record {
      few = omega arith;
      distinct = λ i j l k. go i j l k (ℕ_discrete j n);
      slots_are = are;
    })
  where
    go : (i j : ℕ) → i < j → j < suc n → Dec (j ≡ n) → same_kind (with_kind words n kind) i (padded_kind (with_kind words n kind) j) ≡ false
    go i j l k (yes q) =
        rw q
        (same_to _ _ _ (row_before_stored words n kind room i (omega arith))
        ∙ same_as _ _ _ (row_stored words n kind room)
        ∙ new i (omega arith))
      where
        new : (i : ℕ) → i < n → same_kind words i kind ≡ false
        new i l = first_clear (λ j. same_kind words j kind) n (ltb-false (first (λ j. same_kind words j kind) n) n t) i l
    go i j l k (no q) =
        same_to _ _ _ (row_before_stored words n kind room i (omega arith))
        ∙ same_as _ _ _ (row_before_stored words n kind room j (omega arith))
        ∙ h.distinct i j l (omega arith)

    are : set slots (slot_of words slots kind) (entry_of kind n) ≡ slots_of (with_kind words n kind) (suc n)
    are =
        ap (λ (s : ℕ). set slots s (entry_of kind n)) (ends_where_entered words n slots h kind t)
        ∙ sym (entering_alike slots _ kind n (row_stored words n kind room))
        ∙ ap (λ (l : List ℕ). entering l (padded_kind (with_kind words n kind) n) n)
        (h.slots_are ∙ sym (slots_agree (with_kind words n kind) words n (λ j l. row_before_stored words n kind room j l)))
