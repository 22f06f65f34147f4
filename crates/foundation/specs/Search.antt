-- The first number below n that passes a test: one search for every table; and the greatest.
use Rattle.std.specs.Prelude.{◌≡◌, refl, Bool, true, false, ℕ, zero, suc, ◌<◌, ◌≤◌, cond, ltb, Option, Some, None}
use Rattle.std.proofs.Common.{ap, sym, ◌∙◌, not-suc-le-zero, le_of_suc-le-suc, arith}
use Rattle.std.proofs.Math.Decide.{ℕ_discrete}
use Rattle.std.proofs.lemmas.Bool.{lt-ltb, le-ltb}
use Rattle.foundation.specs.Tests.{choose}

-- the least k below n at which p holds, or n where there is none
unfoldable pub first : (ℕ → Bool) → ℕ → ℕ
first p zero = zero
first p (suc n) = choose (p 0) 0 (suc (first (λ k. p (suc k)) n))

first-true : (p : ℕ → Bool) (n : ℕ) → p 0 ≡ true → first p (suc n) ≡ 0
unfolding first
first-true p n e = rw e

first_false : (p : ℕ → Bool) (n : ℕ) → p 0 ≡ false → first p (suc n) ≡ suc (first (λ k. p (suc k)) n)
unfolding first
first_false p n e = rw e

-- a number that passes, with none below it that does, is the first
pub first_at : (p : ℕ → Bool) (n k : ℕ) → k < n → ((j : ℕ) → j < k → p j ≡ false) → p k ≡ true → first p n ≡ k
first_at p zero k h none hit = absurd (not-suc-le-zero h)
first_at p (suc n) zero h none hit = first-true p n hit
first_at p (suc n) (suc k) h none hit =
    first_false p n (none 0 (omega arith)) ∙ ap suc (first_at (λ j. p (suc j)) n k (le_of_suc-le-suc h) (λ j l. none (suc j) (omega arith)) hit)

-- where none passes, it is n
pub first_none : (p : ℕ → Bool) (n : ℕ) → ((j : ℕ) → j < n → p j ≡ false) → first p n ≡ n
unfolding first
first_none p zero none = refl
first_none p (suc n) none = first_false p n (none 0 (omega arith)) ∙ ap suc (first_none (λ j. p (suc j)) n (λ j l. none (suc j) (omega arith)))

pub first_le : (p : ℕ → Bool) (n : ℕ) → first p n ≤ n
unfolding first
first_le p zero = omega arith
first_le p (suc n) = go (p 0) refl (first_le (λ k. p (suc k)) n)
  where
    go : (b : Bool) → p 0 ≡ b → first (λ k. p (suc k)) n ≤ n → first p (suc n) ≤ suc n
    go true e l = omega (arith, first-true p n e)
    go false e l = omega (arith, first_false p n e)

-- nothing before the first passes
pub first_before : (p : ℕ → Bool) (n j : ℕ) → j < first p n → p j ≡ false
unfolding first
first_before p zero j h = absurd (not-suc-le-zero h)
first_before p (suc n) j h = go (p 0) refl j h (λ i l. first_before (λ k. p (suc k)) n i l)
  where
    go : (b : Bool) → p 0 ≡ b → (j : ℕ) → j < first p (suc n) → ((i : ℕ) → i < first (λ k. p (suc k)) n → p (suc i) ≡ false) → p j ≡ false
    go true e j h k = absurd (omega (arith, first-true p n e))
    go false e zero h k = e
    go false e (suc j) h k = k j (omega (arith, first_false p n e))

-- and the first does, where it is below n
pub first_hit : (p : ℕ → Bool) (n : ℕ) → first p n < n → p (first p n) ≡ true
first_hit p zero h = absurd (not-suc-le-zero h)
first_hit p (suc n) h = go (p 0) refl (λ l. first_hit (λ k. p (suc k)) n l)
  where
    go : (b : Bool) → p 0 ≡ b → (first (λ k. p (suc k)) n < n → p (suc (first (λ k. p (suc k)) n)) ≡ true) → p (first p (suc n)) ≡ true
    go true e k = rw (first-true p n e) e
    go false e k = rw (first_false p n e) (k (omega (arith, first_false p n e)))

-- where the search ends at n, no number below n passes
pub first_clear : (p : ℕ → Bool) (n : ℕ) → n ≤ first p n → (j : ℕ) → j < n → p j ≡ false
first_clear p n h j l = first_before p n j (omega arith)

-- equal tests have equal firsts
pub first_cong : (p q : ℕ → Bool) (n : ℕ) → ((j : ℕ) → j < n → p j ≡ q j) → first p n ≡ first q n
unfolding first
first_cong p q zero h = refl
first_cong p q (suc n) h = rw (h 0 (omega arith), first_cong (λ k. p (suc k)) (λ k. q (suc k)) n (λ j l. h (suc j) (omega arith)))

-- the least k below n at which p holds, if there is one
abbrev pub first_below : (ℕ → Bool) → ℕ → Option ℕ
first_below p n = cond (ltb (first p n) n) (Some (first p n)) None

-- a number that passes, with none below it that does, is the one
pub below_at : (p : ℕ → Bool) (n k : ℕ) → k < n → ((j : ℕ) → j < k → p j ≡ false) → p k ≡ true → first_below p n ≡ Some k
below_at p n k h none hit = rw (first_at p n k h none hit) (rw (lt-ltb k n h) refl)

-- where none passes, there is none
pub below_none : (p : ℕ → Bool) (n : ℕ) → ((j : ℕ) → j < n → p j ≡ false) → first_below p n ≡ None
below_none p n none = rw (first_none p n none) (rw (le-ltb n n (omega arith)) refl)

-- the greatest k below n at which p holds, or 0 where there is none
unfoldable pub greatest : (ℕ → Bool) → ℕ → ℕ
greatest p zero = zero
greatest p (suc n) = choose (p n) n (greatest p n)

-- a number that passes, with none above it that does, is the greatest
pub greatest_at : (p : ℕ → Bool) (n k : ℕ) → k < n → p k ≡ true → ((j : ℕ) → k < j → j < n → p j ≡ false) → greatest p n ≡ k
unfolding greatest
greatest_at p zero k h hit none = absurd (not-suc-le-zero h)
greatest_at p (suc n) k h hit none = go (λ l. greatest_at p n k l hit (λ j above m. none j above (omega arith))) (ℕ_discrete k n)
  where
    go : (k < n → greatest p n ≡ k) → Dec (k ≡ n) → greatest p (suc n) ≡ k
    go below (yes e) = rw (rw e at hit) (sym e)
    go below (no ne) = rw (none n (omega arith) (omega arith)) (below (omega arith))
