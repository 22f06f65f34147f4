-- The table of the powers of O, "O 1 to 4 and exponent 1 to 3": three entries for each O, one for each exponent.
use Rattle.std.specs.Prelude.{◌≡◌, List, Bool, not, ℕ, suc, ◌/◌, ◌%◌, ◌^◌, eqb, length, get_or}
use Rattle.foundation.specs.Search.{first}

-- how many entries the table has
abbrev pub power_count : ℕ
power_count = 12

-- the power that belongs at place i
abbrev pub power_at : ℕ → ℕ
power_at i = suc (i / 3) ^ suc (i % 3)

-- another number stands at place i
abbrev pub wrong_power : List ℕ → ℕ → Bool
wrong_power table i = not (eqb (get_or table i 0) (power_at i))

-- "One test over the whole table proves all twelve entries": there are twelve, and the search for a wrong one ends behind them
abbrev pub AllPowers : List ℕ → Type 0
AllPowers table = (length table ≡ power_count) × (first (wrong_power table) power_count ≡ power_count)
