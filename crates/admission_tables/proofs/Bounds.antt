-- How long an output table can be, so that its length is computed without a carry.
use Prim.Native.Nat.{ℕ, ◌-◌, ◌*◌, ◌≤◌}
use native.Mathlib.Nat.{mul-le-mul}
use native.Mathlib.Omega.{arith}

pub table_bounds : (S O : ℕ) → S ≤ 16 → O ≤ 4 → ((S - 1) * O ≤ 60) × ((S - 1) * O * O ≤ 240)
table_bounds S O s o =
    let few : S - 1 ≤ 15 = omega arith in
    let m : (S - 1) * O ≤ 60 = mul-le-mul few o in
    (m, mul-le-mul m o)
