-- A buffer that is filled entry by entry: those passed are right, those behind are as they were.
use mathlib.Core.Path.{◌≡◌, refl, ◌∙◌}
use mathlib.Core.List.{List}
use Prim.Native.Nat.{ℕ, ◌+◌, ◌<◌, ◌≤◌}
use native.Mathlib.Omega.{arith}
use lib.ListN.{length, get_or, set, length-set}
use lib.Seq.{get_or-set_other}
use Rattle.foundation.specs.Lists as lists

pub record Filled (f : ℕ → ℕ) (before now : List ℕ) (k : ℕ) : Type 0 where
  pub long : length now ≡ length before
  pub right : (j : ℕ) → j < k → get_or now j 0 ≡ f j
  pub kept : (j : ℕ) → k ≤ j → get_or now j 0 ≡ get_or before j 0

module _ (f : ℕ → ℕ) (before : List ℕ) where
  pub filled_none : Filled f before before 0
  filled_none = record { long = refl; right = λ j h. absurd (omega arith); kept = λ j h. refl }

  pub filled_next : (now : List ℕ) (k v : ℕ) → k < length now → Filled f before now k → v ≡ f k → Filled f before (set now k v) (k + 1)
  filled_next now k v h filled here =
      record {
        long = length-set now k v ∙ filled.long;
        right = lists.filled_more f 0 now k v h filled.right here;
        kept = λ j behind. get_or-set_other now k j v 0 (λ same. omega arith) ∙ filled.kept j (omega arith);
      }
