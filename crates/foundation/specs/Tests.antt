-- Tests: Boolean connectives, comparisons, "some number below n passes" and "every number below n passes".
-- They stay closed until a proof opens them, so that a law's arguments can be found from its statement.
-- Tests of table entries, which code computes with `&`, `|` and `!`, use the library's `◌&&◌`, `◌||◌` and `not` instead.
use Rattle.std.specs.Prelude.{◌≡◌, refl, Bool, true, false, ℕ, zero, suc, ◌<◌, T, eqb, ltb}
use Rattle.std.proofs.Common.{ap₂, subst, sym, not-suc-le-zero, arith, eqb→eq, ltb→lt, lt→ltb}
use Rattle.std.proofs.Math.Decide.{ℕ_discrete}
use Rattle.std.proofs.Math.Dec.{eqb_refl}

infixr 35 ◌and◌
infixr 30 ◌or◌
-- a choice by a test
abbrev pub choose {ℓ} : {A : Type ℓ} → Bool → A → A → A
choose true a b = a
choose false a b = b

unfoldable pub ◌and◌ : Bool → Bool → Bool
true and b = b
false and b = false

unfoldable pub ◌or◌ : Bool → Bool → Bool
true or b = true
false or b = b

unfoldable pub same : ℕ → ℕ → Bool
same m n = eqb m n

unfoldable pub below : ℕ → ℕ → Bool
below m n = ltb m n

-- some number below n passes the test f
unfoldable pub some_below : ℕ → (ℕ → Bool) → Bool
some_below zero f = false
some_below (suc n) f = some_below n f or f n

-- every number below n passes the test f
unfoldable pub every_below : ℕ → (ℕ → Bool) → Bool
every_below zero f = true
every_below (suc n) f = every_below n f and f n

pub and_left : (a b : Bool) → T (a and b) → T a
unfolding ◌and◌
and_left true b h = tt
and_left false b h = absurd h

pub and_right : (a b : Bool) → T (a and b) → T b
unfolding ◌and◌
and_right true b h = h
and_right false b h = absurd h

pub and_both : (a b : Bool) → T a → T b → T (a and b)
unfolding ◌and◌
and_both true b h k = k
and_both false b h k = absurd h

pub or_left : (a b : Bool) → T a → T (a or b)
unfolding ◌or◌
or_left true b h = tt
or_left false b h = absurd h

pub or_right : (a b : Bool) → T b → T (a or b)
unfolding ◌or◌
or_right true b h = tt
or_right false b h = h

-- by cases, into any type
pub or_cases : {X : Type 0} (a b : Bool) → T (a or b) → (T a → X) → (T b → X) → X
unfolding ◌or◌
or_cases true b h f g = f tt
or_cases false b h f g = g h

pub same_eq : (m n : ℕ) → T (same m n) → m ≡ n
unfolding same
same_eq m n t = eqb→eq m n t

pub eq_same : (m n : ℕ) → m ≡ n → T (same m n)
unfolding same
eq_same m n e = subst (λ (k : ℕ). T (eqb m k)) e (eqb_refl m)

pub below_lt : (m n : ℕ) → T (below m n) → m < n
unfolding below
below_lt m n t = ltb→lt m n t

pub lt_below : (m n : ℕ) → m < n → T (below m n)
unfolding below
lt_below m n t = lt→ltb m n t

-- a test that holds is true, one that fails is false
pub test_true : (b : Bool) → T b → b ≡ true
test_true true t = refl
test_true false t = absurd t

pub true_test : (b : Bool) → b ≡ true → T b
true_test true e = tt
true_test false e = subst T (sym e) tt

pub test_false : (b : Bool) → (T b → ⊥) → b ≡ false
test_false true t = absurd (t tt)
test_false false t = refl

pub false_test : (b : Bool) → b ≡ false → T b → ⊥
false_test true e t = subst T e tt
false_test false e t = t

-- two tests that hold together are equal
pub test_ext : (a b : Bool) → (T a → T b) → (T b → T a) → a ≡ b
test_ext true true f g = refl
test_ext true false f g = absurd (f tt)
test_ext false true f g = absurd (g tt)
test_ext false false f g = refl

pub some_intro : (n : ℕ) (f : ℕ → Bool) (i : ℕ) → i < n → T (f i) → T (some_below n f)
unfolding some_below
some_intro zero f i h t = absurd (not-suc-le-zero h)
some_intro (suc n) f i h t = go (λ (l : i < n). some_intro n f i l t) (ℕ_discrete i n)
  where
    go : (i < n → T (some_below n f)) → Dec (i ≡ n) → T (some_below n f or f n)
    go k (yes e) = or_right _ _ (subst (λ (m : ℕ). T (f m)) e t)
    go k (no ne) = or_left _ _ (k (omega arith))

pub some_elim : (n : ℕ) (f : ℕ → Bool) → T (some_below n f) → (i : ℕ) × (i < n) × T (f i)
unfolding some_below
some_elim zero f t = absurd t
some_elim (suc n) f t =
    or_cases _ _ t (λ (a : T (some_below n f)). let r = some_elim n f a in (r.0, omega (arith, r.1), r.2)) (λ b. (n, omega arith, b))

pub some_cong : (n : ℕ) (f g : ℕ → Bool) → ((i : ℕ) → i < n → f i ≡ g i) → some_below n f ≡ some_below n g
unfolding some_below
some_cong zero f g h = refl
some_cong (suc n) f g h = ap₂ ◌or◌ (some_cong n f g (λ i l. h i (omega arith))) (h n (omega arith))

pub every_intro : (n : ℕ) (f : ℕ → Bool) → ((i : ℕ) → i < n → T (f i)) → T (every_below n f)
unfolding every_below
every_intro zero f h = tt
every_intro (suc n) f h = and_both _ _ (every_intro n f (λ i l. h i (omega arith))) (h n (omega arith))

pub every_elim : (n : ℕ) (f : ℕ → Bool) → T (every_below n f) → (i : ℕ) → i < n → T (f i)
unfolding every_below
every_elim zero f t i h = absurd (not-suc-le-zero h)
every_elim (suc n) f t i h = go (λ (l : i < n). every_elim n f (and_left _ _ t) i l) (ℕ_discrete i n)
  where
    go : (i < n → T (f i)) → Dec (i ≡ n) → T (f i)
    go k (yes e) = subst (λ (m : ℕ). T (f m)) (sym e) (and_right _ _ t)
    go k (no ne) = k (omega arith)
