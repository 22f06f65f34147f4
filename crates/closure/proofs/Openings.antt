-- The pairs of kinds that are gone through, and the first over which a kind is missing.
use mathlib.Core.Path.{◌≡◌, refl, ap, ◌∙◌}
use mathlib.Core.Bool.{true}
use mathlib.Core.List.{List}
use Prim.Native.Nat.{ℕ, ◌+◌, ◌<◌}
use native.Mathlib.Omega.{arith}
use native.Mathlib.Decide.{ℕ_discrete}
use lib.ListN.{length, get_or}
use Rattle.model.specs.Tables.{Contract}
use Rattle.closure.specs.Held.{held_over, HeldRight, OpenRight, OpenAt}

module _ (C : Contract) (words : List ℕ) (s : ℕ) (lefts rights : List ℕ) where
  -- all right kinds over the left kinds before place i
  abbrev pub HeldTo : ℕ → Type 0
  HeldTo i = (k m : ℕ) → k < i → m < length rights → held_over C words s (get_or lefts k 0) (get_or rights m 0) ≡ true

  -- and over the left kind at place i
  pub held_more : (i : ℕ) → HeldTo i → HeldRight C words s (get_or lefts i 0) rights (length rights) → HeldTo (i + 1)
  held_more i to here k m hk hm = go (ℕ_discrete k i)
    where
      go : Dec (k ≡ i) → held_over C words s (get_or lefts k 0) (get_or rights m 0) ≡ true
      go (yes e) = ap (λ (x : ℕ). held_over C words s (get_or lefts x 0) (get_or rights m 0)) e ∙ here m hm
      go (no ne) = to k m (omega arith) hm

  -- or one is missing over it
  pub open_found : (i : ℕ) → i < length lefts → HeldTo i → (left right : ℕ) → left ≡ get_or lefts i 0
      → OpenRight C words s (get_or lefts i 0) rights right → OpenAt C words s lefts rights left right
  open_found i hi to left right is_left at =
      rw is_left
      (record {
        left_place = i;
        right_place = at.place;
        left_inside = hi;
        right_inside = at.inside;
        is_left = refl;
        is_right = at.is_right;
        missing = at.missing;
        earlier_left = to;
        earlier_right = at.earlier;
      })
