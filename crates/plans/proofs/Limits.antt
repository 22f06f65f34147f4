-- How many calls a plan's flag allows.
use mathlib.Core.Path.{◌≡◌, refl}
use mathlib.Core.Bool.{Bool, true, false}
use mathlib.Core.List.{List}
use Prim.Native.Nat.{ℕ, ◌≤◌}
use native.Mathlib.Omega.{arith}
use mir.Val.{bool_byte}
use lib.Dec.{eqb}
use lib.ListN.{get_or}
use Rattle.foundation.specs.Tests.{choose}
use Rattle.model.specs.Tables.{Transformation}
use Rattle.model.specs.Running.{has_stays, most_calls}
use Rattle.plans.specs.Plans.{flag_place, has_stay, plan_most}
use borrow.Author.Tests.{eq-eqb, ne_eqb}

module _ (plan : List ℕ) where
  pub most_bounded : plan_most plan ≤ 65536
  most_bounded = cases (eqb (get_or plan flag_place 0) 1)
    where
      cases : (b : Bool) → choose b 4096 65536 ≤ 65536
      cases true = omega arith
      cases false = omega arith

  -- and these are the calls that a run makes at most
  pub most_made : (T : Transformation) → get_or plan flag_place 0 ≡ bool_byte (has_stay T.symbols T.rules) → plan_most plan ≡ most_calls T
  unfolding most_calls
  most_made T e = rw e (cases (has_stays T))
    where
      cases : (b : Bool) → choose {A = ℕ} (eqb (bool_byte b) 1) 4096 65536 ≡ choose b 4096 65536
      cases true = refl
      cases false = refl

module _ (plan : List ℕ) where
  pub most_flagged : get_or plan flag_place 0 ≡ 1 → plan_most plan ≡ 4096
  most_flagged e = rw (eq-eqb _ _ e)

  pub most_not_flagged : (get_or plan flag_place 0 ≡ 1 → ⊥) → plan_most plan ≡ 65536
  most_not_flagged ne = rw (ne_eqb _ _ ne)
