-- A single bit of a word as the code tests it.
use mathlib.Core.Path.{◌≡◌, ap}
use Prim.Native.Nat.{ℕ, ◌/◌, ◌^◌}
use lib.Dec.{eqb}
use lib.Bits.{bit_and, and_mask}
use Rattle.foundation.specs.Words.{bit}

pub bit_tested : (w i : ℕ) → eqb (bit_and (w / 2 ^ i) 1) 1 ≡ bit w i
unfolding bit
bit_tested w i = ap (λ (x : ℕ). eqb x 1) (and_mask (w / 2 ^ i) 1)
