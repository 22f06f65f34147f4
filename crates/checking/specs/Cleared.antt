-- A buffer that is cleared from a place on.
use Rattle.std.specs.Prelude.{List, ℕ, ◌++◌, length, take, drop, replicate}

-- n numbers that stand, and zeros
abbrev pub cleared_from : ℕ → List ℕ → List ℕ
cleared_from n l = take n l ++ replicate (length (drop n l)) 0
