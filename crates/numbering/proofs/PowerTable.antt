-- What the test over the whole table of powers says of each entry.
use mathlib.Core.Path.{◌≡◌, ap₂, ◌∙◌}
use mathlib.Core.List.{List}
use Prim.Native.Nat.{ℕ, suc, ◌/◌, ◌%◌, ◌^◌, ◌<◌}
use native.Mathlib.Omega.{arith}
use lib.ListN.{get_or}
use Rattle.foundation.specs.Search.{first_clear}
use Rattle.model.proofs.Laws.Tests.{not_eqb}
use Rattle.numbering.specs.Powers.{power_count, power_at, wrong_power, AllPowers}

-- each of the twelve entries is the power that belongs there
entry_is : (table : List ℕ) → AllPowers table → (i : ℕ) → i < power_count → get_or table i 0 ≡ power_at i
entry_is table all i h = not_eqb _ _ (first_clear (wrong_power table) power_count (omega (arith, all.1)) i h)

-- the entry at the place of O and an exponent
pub power_is : (table : List ℕ) → AllPowers table → (i O n : ℕ) → i < power_count → suc (i / 3) ≡ O → suc (i % 3) ≡ n
    → get_or table i 0 ≡ O ^ n
power_is table all i O n h o e = entry_is table all i h ∙ ap₂ ◌^◌ o e
