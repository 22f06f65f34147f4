-- The first right kind over which a kind is missing, and what it tells of the pairs that were gone through.
use mathlib.Core.Path.{◌≡◌, refl, ap, sym, ◌∙◌}
use mathlib.Core.Bool.{Bool, true, false, not}
use mathlib.Core.List.{List}
use Prim.Native.Nat.{ℕ, ◌+◌, ◌<◌, ◌≤◌}
use native.Mathlib.Omega.{arith}
use native.Mathlib.Decide.{ℕ_discrete}
use borrow.Author.Tests.{not-false}
use lib.ListN.{length, get_or}
use Rattle.foundation.specs.Search.{first_at, first_none, first_hit, first_clear, first_before}
use Rattle.model.specs.Tables.{Contract}
use Rattle.closure.specs.Held.{held_over, first_open, OpenAt}
use Rattle.closure.proofs.Openings.{HeldTo}

not-true : (b : Bool) → not b ≡ true → b ≡ false
not-true true e = sym e
not-true false e = refl

-- the search for the first right kind: none is missing before place j
module _ (C : Contract) (words : List ℕ) (s left : ℕ) (rights : List ℕ) where
  abbrev pub NoneMissing : ℕ → Type 0
  NoneMissing j = (m : ℕ) → m < j → not (held_over C words s left (get_or rights m 0)) ≡ false

  module _ (j right : ℕ) (held : Bool) (is_right : right ≡ get_or rights j 0) (told : held ≡ held_over C words s left right) (none : NoneMissing j) where
    here : not held ≡ not (held_over C words s left (get_or rights j 0))
    here = ap not (told ∙ ap (held_over C words s left) is_right)

    pub missing_here : j < length rights → not held ≡ true → j ≡ first_open C words s left rights
    missing_here h e = sym (first_at _ (length rights) j h none (sym here ∙ e))

    pub none_missing_more : not held ≡ false → NoneMissing (j + 1)
    none_missing_more e m h = go (ℕ_discrete m j)
      where
        go : Dec (m ≡ j) → not (held_over C words s left (get_or rights m 0)) ≡ false
        go (yes same) = ap (λ (x : ℕ). not (held_over C words s left (get_or rights x 0))) same ∙ sym here ∙ e
        go (no ne) = none m (omega arith)

  pub none_missing_all : (j : ℕ) → length rights ≤ j → j ≤ length rights → NoneMissing j → j ≡ first_open C words s left rights
  none_missing_all j a b none = let all : j ≡ length rights = omega arith in all ∙ sym (first_none _ (length rights) (λ m h. none m (omega arith)))

-- the pairs that were gone through, by the place of the first right kind over which a kind is missing
module _ (C : Contract) (words : List ℕ) (s : ℕ) (lefts rights : List ℕ) where
  module _ (i left j : ℕ) (is_left : left ≡ get_or lefts i 0) (found : j ≡ first_open C words s left rights) (to : HeldTo C words s lefts rights i) where
    abbrev missing_at : ℕ → Bool
    missing_at m = not (held_over C words s left (get_or rights m 0))

    -- none is missing over this left kind
    pub held_more : length rights ≤ j → HeldTo C words s lefts rights (i + 1)
    held_more none k m hk hm = go (ℕ_discrete k i)
      where
        go : Dec (k ≡ i) → held_over C words s (get_or lefts k 0) (get_or rights m 0) ≡ true
        go (yes e) =
            ap (λ (l : ℕ). held_over C words s l (get_or rights m 0)) (ap (λ (x : ℕ). get_or lefts x 0) e ∙ sym is_left)
            ∙ not-false _ (first_clear missing_at (length rights) (omega (arith, found)) m hm)
        go (no ne) = to k m (omega arith) hm

    -- one is
    open_here : (right : ℕ) → right ≡ get_or rights j 0 → i < length lefts → j < length rights → OpenAt C words s lefts rights left right
    open_here right is_right hi hj =
        record {
          left_place = i;
          right_place = j;
          left_inside = hi;
          right_inside = hj;
          is_left = is_left;
          is_right = is_right;
          missing =
              not-true _
              (ap (λ (r : ℕ). not (held_over C words s left r)) (is_right ∙ ap (λ (x : ℕ). get_or rights x 0) found)
              ∙ first_hit missing_at (length rights) (omega (arith, found)));
          earlier_left = to;
          earlier_right = λ m h. not-false _ (first_before missing_at (length rights) m (omega (arith, found)));
        }

    -- of the two numbers that are told
    pub open_found : (first second : ℕ) → first ≡ left → second ≡ get_or rights j 0 → i < length lefts → j < length rights
        → OpenAt C words s lefts rights first second
    open_found first second is_first is_second hi hj = rw is_first (open_here second is_second hi hj)
