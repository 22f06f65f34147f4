-- How large the numbers are that are computed on the way.
use Prim.Native.Nat.{ℕ, ◌+◌, ◌*◌, ◌-◌, ◌/◌, ◌%◌, ◌<◌, ◌≤◌}
use native.Mathlib.Nat.{mul-le-mul, mul-pos, mod-lt, div-le_self}
use native.Mathlib.Omega.{arith}
use Rattle.merging_pairs.specs.declared.pairs.Pair.{Pair}

-- either state of a pair times the number of states
pub state_bounds : (pair : Pair) (states : ℕ) → pair.first.0.0 < 4 → pair.second.0.0 < 4 → states ≤ 4
    → (pair.first.0.0 * states ≤ 12) × (pair.second.0.0 * states ≤ 12)
state_bounds pair states first second few =
    let one : pair.first.0.0 ≤ 3 = omega arith in
    let two : pair.second.0.0 ≤ 3 = omega arith in
    (mul-le-mul one few, mul-le-mul two few)

-- an index into an output table
pub index_bounds : (states symbol left : ℕ) → states ≤ 4 → symbol ≤ 256 → left < 65536
    → ((symbol - 1) * states ≤ 1024) × (((symbol - 1) * states + left) * states ≤ 266240)
index_bounds states symbol left few small narrow =
    let less : symbol - 1 ≤ 256 = omega arith in
    let row : (symbol - 1) * states ≤ 1024 = mul-le-mul less few in
    let sum : (symbol - 1) * states + left ≤ 66560 = omega arith in
    (row, mul-le-mul sum few)

-- what stands at entry c + 1 of a table
pub place_bounds : (states c : ℕ) → 1 ≤ states → states ≤ 4
    → (1 ≤ states * states) × (states * states ≤ 16) × (c / (states * states) ≤ c) × (c / states % states < states) × (c % states < states)
place_bounds states c some few =
    (mul-pos some some, mul-le-mul few few, div-le_self c (states * states), mod-lt (c / states) some, mod-lt c some)
