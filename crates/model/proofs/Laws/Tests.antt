-- Tests: what it says that a test, or one of several, fails.
use mathlib.Core.Path.{◌≡◌, refl}
use mathlib.Core.Bool.{Bool, true, false, ◌&&◌, ◌||◌, not, true≢false, false≢true}
use Prim.Native.Nat.{ℕ, ◌≤◌}
use borrow.Author.Tests.{ltb-false, le-ltb, eqb-true, not-false}
use lib.Dec.{ltb, eqb}
use Rattle.foundation.specs.TestLaws.{or_first, or_second}
use Rattle.model.specs.Admission.{outside}
use Rattle.model.proofs.Laws.Established.{Between}

-- a conjunction that fails though its first part holds; one whose second part fails; and one that does not fail
pub and_right : (a b : Bool) → (a && b) ≡ false → a ≡ true → b ≡ false
and_right true b e t = e
and_right false b e t = absurd (false≢true t)

pub and_none : (a : Bool) → (a && false) ≡ false
and_none true = refl
and_none false = refl

pub both_true : (a b : Bool) → not (a && b) ≡ false → (a ≡ true) × (b ≡ true)
both_true true true h = (refl, refl)
both_true true false h = absurd (true≢false h)
both_true false b h = absurd (true≢false h)

-- a disjunction whose second part fails, and one whose second part holds
pub or_none : (a : Bool) → (a || false) ≡ a
or_none true = refl
or_none false = refl

pub or_sure : (a : Bool) → (a || true) ≡ true
or_sure true = refl
or_sure false = refl

-- five tests that fail
pub record NoneOf (a b c d e : Bool) : Type 0 where
  pub one : a ≡ false
  pub two : b ≡ false
  pub three : c ≡ false
  pub four : d ≡ false
  pub five : e ≡ false

-- as the parts of a disjunction that fails do
pub none_of : (a b c d e : Bool) → (a || b || c || d || e) ≡ false → NoneOf a b c d e
none_of a b c d e h =
    let abcd : (a || b || c || d) ≡ false = or_first (a || b || c || d) e h in
    let abc : (a || b || c) ≡ false = or_first (a || b || c) d abcd in
    let ab : (a || b) ≡ false = or_first (a || b) c abc in
    record {
      one = or_first a b ab;
      two = or_second a b ab;
      three = or_second (a || b) c abc;
      four = or_second (a || b || c) d abcd;
      five = or_second (a || b || c || d) e h;
    }

-- a number that is not outside
pub inside : (least most n : ℕ) → outside least most n ≡ false → Between least most n
inside least most n h =
    record { least≤ = ltb-false n least (or_first _ (ltb most n) h); ≤most = ltb-false most n (or_second (ltb n least) _ h) }

pub not_eqb : (m n : ℕ) → not (eqb m n) ≡ false → m ≡ n
not_eqb m n h = eqb-true m n (not-false (eqb m n) h)

pub not_outside : (least most n : ℕ) → least ≤ n → n ≤ most → outside least most n ≡ false
not_outside least most n l m = rw (le-ltb n least l, le-ltb most n m)
