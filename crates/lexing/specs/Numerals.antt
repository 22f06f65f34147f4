-- Numerals: tokens of decimal digits, up to 65535.
use Rattle.std.specs.Prelude.{Bool, ◌&&◌, leb, List, [], ◌∷◌, ℕ, ◌+◌, ◌*◌, ◌-◌, ltb, Result, Ok, Err}
use Rattle.std.specs.Char.{is_ascii_digit}
use Rattle.foundation.specs.Tests.{choose}
use Rattle.lexing.specs.declared.numerals.NotNumber.{NotNumber}
use Rattle.lexing.specs.declared.numerals.NotNumber.TheVariants.{TooLarge, Word}

-- 0 to 9
abbrev pub digit : ℕ → Bool
digit b = leb 48 b && leb b 57

-- digits behind those of a value
unfoldable pub numeral_from : ℕ → List ℕ → Result ℕ NotNumber
numeral_from value [] = choose (ltb value 65536) (Ok value) (Err TooLarge)
numeral_from value (b ∷ rest) = choose (is_ascii_digit b) (numeral_from (value * 10 + (b - 48)) rest) (Err Word)

-- what a token is as a number: one digit or more
unfoldable pub numeral_of : List ℕ → Result ℕ NotNumber
numeral_of [] = Err Word
numeral_of (b ∷ rest) = numeral_from 0 (b ∷ rest)
