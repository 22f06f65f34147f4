-- Decimals: a number as its decimal digits, with no zero before them.
use Rattle.std.specs.Prelude.{List, [], ◌∷◌, ℕ, zero, suc, ◌+◌, ◌/◌, ◌%◌, ltb}
use Rattle.foundation.specs.Tests.{choose}

-- at most so many digits in front of what follows
unfoldable pub digits_onto : ℕ → ℕ → List ℕ → List ℕ
digits_onto zero value rest = rest
digits_onto (suc n) value rest = choose (ltb value 10) ((48 + value) ∷ rest) (digits_onto n (value / 10) ((48 + value % 10) ∷ rest))

-- twenty are enough for 64 bits
unfoldable pub decimal : ℕ → List ℕ
decimal value = digits_onto 20 value []
