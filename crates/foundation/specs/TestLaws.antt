-- Equations of tests: what a connective gives beside a constant, the parts of one that fails, and "some number below n" beside a
-- single number.
use Rattle.std.specs.Prelude.{◌≡◌, refl, Bool, true, false, ◌||◌, ℕ, zero, suc, ◌<◌}
use Rattle.std.proofs.Common.{ap, sym, ◌∙◌, true≢false, not-suc-le-zero, arith, eq-eqb, ne_eqb, lt-ltb}
use Rattle.std.proofs.Math.Decide.{ℕ_discrete}
use Rattle.foundation.specs.Tests.{◌and◌, ◌or◌, same, below, some_below}

pub and_false : (a : Bool) → (a and false) ≡ false
unfolding ◌and◌
and_false true = refl
and_false false = refl

pub and_true : (a : Bool) → (a and true) ≡ a
unfolding ◌and◌
and_true true = refl
and_true false = refl

pub true_and : (a b : Bool) → a ≡ true → (a and b) ≡ b
unfolding ◌and◌
true_and a b e = rw e

pub and_over : (a b c : Bool) → ((a and b) and c) ≡ (a and (b and c))
unfolding ◌and◌
and_over true b c = refl
and_over false b c = refl

pub or_over : (a s t : Bool) → ((a and s) or (a and t)) ≡ (a and (s or t))
unfolding ◌and◌ ◌or◌
or_over true s t = refl
or_over false s t = refl

pub or_false : (a b : Bool) → b ≡ false → (a or b) ≡ a
unfolding ◌or◌
or_false true b e = refl
or_false false b e = e

pub false_or : (a b : Bool) → a ≡ false → (a or b) ≡ b
unfolding ◌or◌
false_or a b e = rw e

-- a disjunction that fails, part by part
pub or_first : (a b : Bool) → (a || b) ≡ false → a ≡ false
or_first true b e = e
or_first false b e = refl

pub or_second : (a b : Bool) → (a || b) ≡ false → b ≡ false
or_second true b e = absurd (true≢false e)
or_second false b e = e

pub same_yes : (m n : ℕ) → m ≡ n → same m n ≡ true
unfolding same
same_yes m n e = eq-eqb m n e

pub same_no : (m n : ℕ) → (m ≡ n → ⊥) → same m n ≡ false
unfolding same
same_no m n h = ne_eqb m n h

pub same_turned : (m n : ℕ) → same m n ≡ same n m
same_turned m n = go (ℕ_discrete m n)
  where
    go : Dec (m ≡ n) → same m n ≡ same n m
    go (yes e) = rw e
    go (no ne) = same_no m n ne ∙ sym (same_no n m (λ (e : n ≡ m). ne (sym e)))

pub below_yes : (m n : ℕ) → m < n → below m n ≡ true
unfolding below
below_yes m n h = lt-ltb m n h

pub some_and : (a : Bool) (n : ℕ) (f : ℕ → Bool) → some_below n (λ y. a and f y) ≡ (a and some_below n f)
unfolding some_below
some_and a zero f = sym (and_false a)
some_and a (suc n) f = ap (λ (b : Bool). b or (a and f n)) (some_and a n f) ∙ or_over a (some_below n f) (f n)

pub some_none : (n : ℕ) (f : ℕ → Bool) → ((i : ℕ) → i < n → f i ≡ false) → some_below n f ≡ false
unfolding some_below ◌or◌
some_none zero f h = refl
some_none (suc n) f h = rw (some_none n f (λ i l. h i (omega arith)), h n (omega arith))

-- only one number can be q
pub some_same : (n q : ℕ) (f : ℕ → Bool) → q < n → some_below n (λ y. f y and same q y) ≡ f q
unfolding some_below
some_same zero q f h = absurd (not-suc-le-zero h)
some_same (suc n) q f h = go (λ (l : q < n). some_same n q f l) (ℕ_discrete q n)
  where
    go : (q < n → some_below n (λ y. f y and same q y) ≡ f q)
        → Dec (q ≡ n)
        → (some_below n (λ y. f y and same q y) or (f n and same q n)) ≡ f q
    go k (yes e) =
        false_or _ _ (some_none n (λ y. f y and same q y) (λ i l. rw (same_no q i (λ x. omega arith)) (and_false (f i))))
        ∙ rw (same_yes q n e) (and_true (f n) ∙ ap f (sym e))
    go k (no ne) = or_false _ _ (rw (same_no q n ne) (and_false (f n))) ∙ k (omega arith)
