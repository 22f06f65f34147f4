-- Refusals: a sequence gives none exactly where no part does, and a table where no entry is bad; which one is given; and which
-- numbers they have.
use mathlib.Core.Path.{◌≡◌, refl, sym, subst, ◌∙◌}
use mathlib.Core.Bool.{Bool, true, false}
use mathlib.Core.Logic.{◌⊎◌, inl, inr}
use Prim.Native.Nat.{ℕ, zero, suc, ◌<◌, ◌≤◌}
use native.Mathlib.Nat.{not-suc-le-zero}
use native.Mathlib.Decide.{dec_lt}
use native.Mathlib.Omega.{arith}
use borrow.Author.Tests.{ltb-false, lt-ltb, le-ltb}
use Rattle.foundation.specs.Search.{first, first_clear, first_cong}
use Rattle.model.specs.Answers.{Verdict, fine, refused, ◌then◌, refuse_if, refuse_first, refuse_lowest, admitted, refusal, given}

pub refused_not_fine : (number place : ℕ) → refused number place ≡ fine → ⊥
refused_not_fine number place e = let z : ◌≡◌ {A = ℕ} 0 1 = cc in omega arith

pub then_fine_left : (v w : Verdict) → (v then w) ≡ fine → v ≡ fine
unfolding ◌then◌
then_fine_left fine w e = refl
then_fine_left (refused number place) w e = e

pub then_fine_right : (v w : Verdict) → (v then w) ≡ fine → w ≡ fine
unfolding ◌then◌
then_fine_right fine w e = e
then_fine_right (refused number place) w e = absurd (refused_not_fine number place e)

pub then_fine : (v w : Verdict) → (v then w) ≡ fine → (v ≡ fine) × (w ≡ fine)
then_fine v w e = (then_fine_left v w e, then_fine_right v w e)

-- what comes before and is fine does not matter
pub then_passed : (v w : Verdict) → v ≡ fine → (v then w) ≡ w
unfolding ◌then◌
then_passed v w e = rw e

-- what comes after a refusal does not matter
pub then_refused : (v w : Verdict) (number place : ℕ) → v ≡ refused number place → (v then w) ≡ refused number place
unfolding ◌then◌
then_refused v w number place e = rw e

pub then_assoc : (u v w : Verdict) → ((u then v) then w) ≡ (u then v then w)
unfolding ◌then◌
then_assoc fine v w = refl
then_assoc (refused number place) v w = refl

-- equal verdicts, the second ones where the first are fine
pub then_same : (v v' w w' : Verdict) → v ≡ v' → (v ≡ fine → w ≡ w') → (v then w) ≡ (v' then w')
unfolding ◌then◌
then_same fine v' w w' e h = rw (← e) (h refl)
then_same (refused number place) v' w w' e h = rw (← e)

pub refuse_if_fine : (test : Bool) (number place : ℕ) → refuse_if test number place ≡ fine → test ≡ false
unfolding refuse_if
refuse_if_fine true number place e = absurd (refused_not_fine number place e)
refuse_if_fine false number place e = refl

pub refuse_if_passed : (test : Bool) (number place : ℕ) → test ≡ false → refuse_if test number place ≡ fine
unfolding refuse_if
refuse_if_passed test number place e = rw e

pub refuse_if_refused : (test : Bool) (number place : ℕ) → test ≡ true → refuse_if test number place ≡ refused number place
unfolding refuse_if
refuse_if_refused test number place e = rw e

-- what a test that refuses says
pub refuse_if_told : (test : Bool) (number place n p : ℕ) → refuse_if test number place ≡ refused n p → (test ≡ true) × (place ≡ p)
unfolding refuse_if
refuse_if_told true number place n p e = (refl, cc)
refuse_if_told false number place n p e = absurd (refused_not_fine n p (sym e))

-- a verdict that can refuse with one number only
abbrev pub Only : ℕ → Verdict → Type 0
Only number v = (v ≡ fine) ⊎ ((place : ℕ) × (v ≡ refused number place))

pub refuse_if_only : (test : Bool) (number place : ℕ) → Only number (refuse_if test number place)
unfolding refuse_if
refuse_if_only true number place = inr (place, refl)
refuse_if_only false number place = inl refl

module _ (number : ℕ) (bad : ℕ → Bool) (n : ℕ) where
  -- no entry is bad
  pub refuse_first_fine : refuse_first number bad n ≡ fine → (k : ℕ) → k < n → bad k ≡ false
  unfolding refuse_first
  refuse_first_fine e k h = first_clear bad n (ltb-false (first bad n) n (refuse_if_fine _ _ _ e)) k h

  -- a search that came to the end
  pub refuse_first_none : (place : ℕ) → place ≡ first bad n → n ≤ place → refuse_first number bad n ≡ fine
  unfolding refuse_first
  refuse_first_none place e h = refuse_if_passed _ number (first bad n) (le-ltb (first bad n) n (omega arith))

  -- and one that did not: "lowest place"
  pub refuse_first_at : (place : ℕ) → place ≡ first bad n → place < n → refuse_first number bad n ≡ refused number place
  unfolding refuse_first
  refuse_first_at place e h = refuse_if_refused _ number (first bad n) (lt-ltb (first bad n) n (omega arith)) ∙ rw e

-- equal tests
pub refuse_first_same : (number : ℕ) (bad bad' : ℕ → Bool) (n : ℕ) → ((k : ℕ) → k < n → bad k ≡ bad' k)
    → refuse_first number bad n ≡ refuse_first number bad' n
unfolding refuse_first
refuse_first_same number bad bad' n h = rw (first_cong bad bad' n h)

-- equal verdicts of entries
pub refuse_lowest_same : (verdict verdict' : ℕ → Verdict) (n : ℕ) → ((k : ℕ) → k < n → verdict k ≡ verdict' k)
    → refuse_lowest verdict n ≡ refuse_lowest verdict' n
unfolding refuse_lowest
refuse_lowest_same verdict verdict' zero h = refl
refuse_lowest_same verdict verdict' (suc n) h =
    then_same _ _ _ _ (refuse_lowest_same verdict verdict' n (λ k l. h k (omega arith))) (λ f. h n (omega arith))

-- entries with a verdict each
module _ (verdict : ℕ → Verdict) where
  -- none is refused
  pub refuse_lowest_none : (n : ℕ) → ((k : ℕ) → k < n → verdict k ≡ fine) → refuse_lowest verdict n ≡ fine
  unfolding refuse_lowest ◌then◌
  refuse_lowest_none zero none = refl
  refuse_lowest_none (suc n) none = rw (refuse_lowest_none n (λ k l. none k (omega arith)), none n (omega arith))

  -- one is, and none below it: its refusal is given
  pub refuse_lowest_at : (n k number place : ℕ) → k < n → ((j : ℕ) → j < k → verdict j ≡ fine) → verdict k ≡ refused number place
      → refuse_lowest verdict n ≡ refused number place
  unfolding refuse_lowest ◌then◌
  refuse_lowest_at zero k number place h none e = absurd (not-suc-le-zero h)
  refuse_lowest_at (suc n) k number place h none e = go (dec_lt k n) (λ l. refuse_lowest_at n k number place l none e)
    where
      go : Dec (k < n) → (k < n → refuse_lowest verdict n ≡ refused number place) → refuse_lowest verdict (suc n) ≡ refused number place
      go (yes l) below = rw (below l)
      go (no l) below = let last : k ≡ n = omega arith in rw (refuse_lowest_none n (rw last at none), rw last at e)

  pub refuse_lowest_fine : (n : ℕ) → refuse_lowest verdict n ≡ fine → (k : ℕ) → k < n → verdict k ≡ fine
  unfolding refuse_lowest
  refuse_lowest_fine zero e k h = absurd (not-suc-le-zero h)
  refuse_lowest_fine (suc n) e k h = go (dec_lt k n) (λ l. refuse_lowest_fine n (then_fine_left _ _ e) k l)
    where
      go : Dec (k < n) → (k < n → verdict k ≡ fine) → verdict k ≡ fine
      go (yes l) below = below l
      go (no l) below = let last : k ≡ n = omega arith in rw last (then_fine_right _ _ e)

  -- a refusal that is given is that of an entry below which none is refused
  pub record Lowest (n number place : ℕ) : Type 0 where
    pub entry : ℕ
    pub inside : entry < n
    pub is_refused : verdict entry ≡ refused number place
    pub none_before : (j : ℕ) → j < entry → verdict j ≡ fine

  pub refuse_lowest_told : (n number place : ℕ) → refuse_lowest verdict n ≡ refused number place → Lowest n number place
  unfolding refuse_lowest
  refuse_lowest_told zero number place e = absurd (refused_not_fine number place (sym e))
  refuse_lowest_told (suc n) number place e = go (refuse_lowest verdict n) refl (λ f. refuse_lowest_told n number place f)
    where
      go : (v : Verdict) → refuse_lowest verdict n ≡ v → (refuse_lowest verdict n ≡ refused number place → Lowest n number place)
          → Lowest (suc n) number place
      go fine f below =
          record { entry = n; inside = omega arith; is_refused = sym (then_passed _ _ f) ∙ e; none_before = refuse_lowest_fine n f }
      go (refused m q) f below =
          let l = below (f ∙ sym (then_refused _ _ m q f) ∙ e) in
          record { entry = l.entry; inside = omega (arith, l.inside); is_refused = l.is_refused; none_before = l.none_before }

module _ {A : Type 0} (on_refusal : ℕ → ℕ → A) (a : A) where
  pub given_fine : (v : Verdict) → v ≡ fine → given v on_refusal a ≡ a
  unfolding given
  given_fine v e = rw e

  pub given_refused : (v : Verdict) (number place : ℕ) → v ≡ refused number place → given v on_refusal a ≡ on_refusal number place
  unfolding given
  given_refused v number place e = rw e

  -- what is given where a first part is fine, and where it refuses
  pub given_passed : (v w : Verdict) → v ≡ fine → given (v then w) on_refusal a ≡ given w on_refusal a
  given_passed v w e = rw (then_passed v w e)

  pub given_stopped : (v w : Verdict) (number place : ℕ) → v ≡ refused number place → given (v then w) on_refusal a ≡ on_refusal number place
  given_stopped v w number place e = given_refused (v then w) number place (then_refused v w number place e)

-- equal verdicts, and what is given where the first part of them is fine
pub given_same : {A : Type 0} (on_refusal : ℕ → ℕ → A) (v v' w : Verdict) (a a' : A) → v ≡ v' → (v ≡ fine → a ≡ a')
    → given (v then w) on_refusal a ≡ given (v' then w) on_refusal a'
unfolding given ◌then◌
given_same on_refusal fine v' w a a' e h = rw (← e, h refl)
given_same on_refusal (refused number place) v' w a a' e h = rw (← e)

pub refusal_admits_nothing : (number place : ℕ) → refusal number place ≡ admitted → ⊥
refusal_admits_nothing number place e = let z : ◌≡◌ {A = ℕ} 0 1 = cc in omega arith

-- an answer that is no refusal comes from a verdict that is none
pub given_admitted : (v : Verdict) → given v refusal admitted ≡ admitted → v ≡ fine
unfolding given
given_admitted fine e = refl
given_admitted (refused number place) e = absurd (refusal_admits_nothing number place e)

-- every refusal has a number of which P holds
abbrev pub Numbers : (ℕ → Type 0) → Verdict → Type 0
Numbers P v = (number place : ℕ) → v ≡ refused number place → P number

module _ (P : ℕ → Type 0) where
  pub then_numbers : (v w : Verdict) → Numbers P v → Numbers P w → Numbers P (v then w)
  unfolding ◌then◌
  then_numbers fine w of-v of-w = of-w
  then_numbers (refused n p) w of-v of-w = of-v

  pub refused_numbers : (n p : ℕ) → P n → Numbers P (refused n p)
  refused_numbers n p h number place e = let same : n ≡ number = cc in subst P same h

  pub refuse_if_numbers : (test : Bool) (n p : ℕ) → P n → Numbers P (refuse_if test n p)
  unfolding refuse_if
  refuse_if_numbers true n p h number place e = refused_numbers n p h number place e
  refuse_if_numbers false n p h number place e = absurd (refused_not_fine number place (sym e))

  pub refuse_first_numbers : (n : ℕ) (bad : ℕ → Bool) (count : ℕ) → P n → Numbers P (refuse_first n bad count)
  unfolding refuse_first
  refuse_first_numbers n bad count h = refuse_if_numbers _ n _ h

  pub refuse_lowest_numbers : (verdict : ℕ → Verdict) (count : ℕ) → ((k : ℕ) → Numbers P (verdict k)) → Numbers P (refuse_lowest verdict count)
  refuse_lowest_numbers verdict count each number place e = let l = refuse_lowest_told verdict count number place e in each l.entry number place l.is_refused
