-- How many slots are occupied: where fewer are than there are, some slot is not; and an entry into that one makes one more.
use Rattle.std.proofs.Common.{◌≡◌, ℕ, zero, suc, ◌+◌, ◌<◌, Bool, true, false, eqb, List, [], ◌∷◌, length, set, replicate, refl, ap, ◌∙◌, le_of_suc-le-suc, not-suc-le-zero, zero-add, arith, ne_eqb}
use Rattle.foundation.specs.Tests.{choose}
use Rattle.kind_slots.specs.Slots.{is_free, occupied}

pub some_free : (slots : List ℕ) → occupied slots < length slots → (slot : ℕ) × (slot < length slots) × (is_free slots slot ≡ true)
unfolding occupied
some_free [] h = absurd (not-suc-le-zero h)
some_free (entry ∷ slots) h = go (eqb entry 0) refl (λ l. some_free slots l)
  where
    go : (b : Bool) → eqb entry 0 ≡ b → (occupied slots < length slots → (slot : ℕ) × (slot < length slots) × (is_free slots slot ≡ true))
        → (slot : ℕ) × (slot < length (entry ∷ slots)) × (is_free (entry ∷ slots) slot ≡ true)
    go true e later = (0, omega arith, e)
    go false e later =
        let fewer : ◌≡◌ {A = ℕ} (choose (eqb entry 0) 0 1) 1 = rw e in
        let (slot, inside, free) = later (omega arith) in
        (suc slot, omega arith, free)

pub one_more : (slots : List ℕ) (slot entry : ℕ) → slot < length slots → is_free slots slot ≡ true → (entry ≡ 0 → ⊥)
    → occupied (set slots slot entry) ≡ suc (occupied slots)
unfolding occupied
one_more [] slot entry h e some = absurd (not-suc-le-zero h)
one_more (x ∷ slots) zero entry h e some = rw (e, ne_eqb entry 0 some) (omega arith)
one_more (x ∷ slots) (suc slot) entry h e some = ap (λ (n : ℕ). choose (eqb x 0) 0 1 + n) (one_more slots slot entry (le_of_suc-le-suc h) e some) ∙ omega arith

pub none_occupied : (n : ℕ) → occupied (replicate n 0) ≡ 0
unfolding occupied
none_occupied zero = refl
none_occupied (suc n) = zero-add _ ∙ none_occupied n
