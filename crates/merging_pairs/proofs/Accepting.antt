-- The marks of a pair: of 0 and 1, the bitwise conjunction is the product.
use mathlib.Core.Path.{◌≡◌, refl}
use Prim.Native.Nat.{ℕ, zero, suc, ◌*◌, ◌≤◌}
use native.Mathlib.Omega.{arith}
use lib.Bits.{bit_and}

pub both_accept : (a b : ℕ) → a ≤ 1 → b ≤ 1 → bit_and a b ≡ a * b
both_accept zero zero h k = refl
both_accept zero (suc zero) h k = refl
both_accept (suc zero) zero h k = refl
both_accept (suc zero) (suc zero) h k = refl
both_accept zero (suc (suc b)) h k = absurd (omega arith)
both_accept (suc zero) (suc (suc b)) h k = absurd (omega arith)
both_accept (suc (suc a)) b h k = absurd (omega arith)
