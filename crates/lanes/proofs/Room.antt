-- Lanes fit into a word: the room of a shift, of a product and of a row of the output table.
use mathlib.Core.Path.{◌≡◌, sym}
use Prim.Native.Nat.{ℕ, suc, ◌+◌, ◌-◌, ◌*◌, ◌/◌, ◌^◌, ◌≤◌, ◌<◌, zero}
use native.Mathlib.Nat.{mul-le-mul_right, mul-le-mul_left, one-le-pow, mul-div-le, le-div_iff_mul-le, pow-le-pow_left, pow-le-pow_right, pow-zero}
use native.Mathlib.Omega.{arith}
use lib.Pow.{pow_mono, shl_lt, pow_pos, pow-lt}
use lib.Bits.{bit_and, and_le_l, mask_lt}
use Rattle.kind_words.specs.Lanes.{Sized, Laid, lane_times}

pub room : (o l y : ℕ) → 0 < l → o * l ≤ 64 → y < o → y * l + l ≤ 64
room o l y p f h = let k : suc y * l ≤ o * l = mul-le-mul_right l h in omega arith

pub put_fits : (o l m z : ℕ) → Sized o l → m < 2 ^ l → z < o → (z * l < 64) × (m * 2 ^ (z * l) < 2 ^ 64)
put_fits o l m z s hm hz =
    let r : z * l + l ≤ 64 = room o l z s.some s.fit hz in
    let a : m * 2 ^ (z * l) < 2 ^ (l + z * l) = shl_lt l (z * l) hm in
    let b : 2 ^ (l + z * l) ≤ 2 ^ 64 = pow_mono {i = l + z * l} {j = 64} (omega arith) in
    (omega arith, omega arith)

pub under : (l a x : ℕ) → a < 2 ^ l → bit_and a x < 2 ^ l
under l a x h = omega (arith, and_le_l a x)

pub times_fits : (o l m qs x e d : ℕ) → Laid o l m qs → x < 2 ^ l → x * bit_and (e / 2 ^ d) qs < 2 ^ 64
times_fits o l m qs x e d h hx =
    let a : x * bit_and (e / 2 ^ d) qs < 2 ^ (o * l) = (lane_times o l x e qs d hx h.firsts h.sized.some).small in
    let b : 2 ^ (o * l) ≤ 2 ^ 64 = pow_mono {i = o * l} {j = 64} h.sized.fit in
    omega arith

pub lane_lt : (l a t m : ℕ) → m ≡ 2 ^ l - 1 → bit_and (a / 2 ^ t) m < 2 ^ l
lane_lt l a t m e = rw e (mask_lt (a / 2 ^ t) l)

pub ones_less : (l m : ℕ) → m ≡ 2 ^ l - 1 → m < 2 ^ l
ones_less l m e = omega (arith, pow_pos l)

pub thin : (t l q : ℕ) → t ≤ l → q * t ≤ q * l
thin t l q h = mul-le-mul_left q h

pub thin_lt : (t l a i m : ℕ) → t ≤ l → m ≡ 2 ^ t - 1 → bit_and (a / 2 ^ i) m < 2 ^ l
thin_lt t l a i m h e = let k : 2 ^ t ≤ 2 ^ l = pow_mono {i = t} {j = l} h in omega (arith, lane_lt t a i m e)

pub pow_some : (o c : ℕ) → 0 < o → 0 < o ^ c
pow_some o c h = one-le-pow c o h

pub quotient : (t l : ℕ) → 0 < t → t ≤ l → (t * (l / t) ≤ l) × (0 < l / t)
quotient t l h k = (mul-div-le l t, (le-div_iff_mul-le {k = t} {x = 1} {y = l} h).1 (omega arith))

pub power_small : (o c : ℕ) → 1 ≤ o → o ≤ 4 → c ≤ 2 → o ^ c ≤ 16
power_small o c h1 h4 hc =
    let a : o ^ c ≤ o ^ 2 = pow-le-pow_right h1 hc in
    let b : o ^ 2 ≤ 4 ^ 2 = pow-le-pow_left h4 2 in
    omega arith

-- a row of a square
pub square : (o i x n : ℕ) → x < o → i + o * o ≤ n → i + x * o + o ≤ n
square o i x n h k = let j : suc x * o ≤ o * o = mul-le-mul_right o h in omega arith

pub small_prod : (a o : ℕ) → a < 65536 → o * o ≤ 64 → (a * o ≤ 4194304) × (a * o * o ≤ 4194304)
small_prod a zero h k = (omega arith, omega arith)
small_prod a (suc o) h k =
    let p : a * (suc o * suc o) ≤ a * 64 = mul-le-mul_left a k in
    let one : 1 ≤ suc o = omega arith in
    let r : suc o * 1 ≤ suc o * suc o = mul-le-mul_left (suc o) one in
    let q : a * (suc o * 1) ≤ a * (suc o * suc o) = mul-le-mul_left a r in
    (omega arith, omega arith)

pub side : (o : ℕ) → o * o ≤ 64 → o ≤ 64
side zero h = omega arith
side (suc o) h = let r : suc o * 1 ≤ suc o * suc o = mul-le-mul_left (suc o) one_le in omega arith
  where
    one_le : 1 ≤ suc o
    one_le = omega arith

pub pow0 : (o c : ℕ) → c ≡ 0 → 1 ≡ o ^ c
pow0 o c e = rw e (sym (pow-zero o))

pub one_up : (t : ℕ) → t < 64 → 1 * 2 ^ t < 2 ^ 64
one_up t h = let k : 2 ^ t < 2 ^ 64 = pow-lt {i = t} {j = 64} h in omega arith

pub row_room : (p g t c : ℕ) → c < t → p + t * g ≤ 64 → p + c * g + g ≤ 64
row_room p g t c h k = let j : suc c * g ≤ t * g = mul-le-mul_right g h in omega arith

-- at most four states
pub square_small : (o : ℕ) → o ≤ 4 → o * o ≤ 16
square_small o h = let a : o * o ≤ 4 * o = mul-le-mul_right o h in omega arith

-- the code of one state
pub no_code : (o x : ℕ) → 0 * o + x ≡ x
no_code o x = omega arith
