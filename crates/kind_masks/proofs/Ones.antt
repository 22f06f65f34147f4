-- The ones of the facts from a fact on: none, 64, or as many as there are; and the ones of at most 32 states.
use mathlib.Core.Path.{◌≡◌}
use Prim.Native.Nat.{ℕ, ◌-◌, ◌^◌, ◌≤◌, min}
use lib.Pow.{pow_mono}
use Rattle.kind_masks.specs.Mask.{ones_from}

pub ones_of : (facts from n : ℕ) → min 64 (facts - from) ≡ n → 2 ^ n - 1 ≡ ones_from facts from
ones_of facts from n e = rw e

pub few_ones : (states : ℕ) → states ≤ 32 → 2 ^ states ≤ 2 ^ 32
few_ones states few = pow_mono {i = states} {j = 32} few
