-- Blocks of facts in a kind that is held as six words, the last of them 0: the facts from a number on, lanes made wider and
-- narrower, and a block put at a number. All the facts of a kind are one number of 256 bits; the words merely hold its bits.
use Rattle.std.specs.Prelude.{◌≡◌, refl, List, Bool, true, false, cond, ℕ, zero, suc, ◌+◌, ◌*◌, ◌-◌, ◌/◌, ◌%◌, ◌^◌, ◌<◌, ◌≤◌, eqb, length, get_or, set, replicate}
use Rattle.std.proofs.Common.{ap, ap₂, sym, ◌∙◌, mod-lt, add-zero, mul-one, arith, eq-eqb, ne_eqb, pow_pos, pow_mono}
use Rattle.std.proofs.Math.Decide.{ℕ_discrete, dec_lt}
use Rattle.std.proofs.lemmas.Nat.{shr_le, or_lt}
use Rattle.std.proofs.Math.ListN.{length-set}
use Rattle.std.proofs.Math.Seq.{get_or-set_same, get_or-set_other}
use Rattle.std.specs.Int.Bits.{bit_and, bit_or, mask_lt}
use Rattle.foundation.specs.Words.{bit}
use Rattle.foundation.specs.Tests.{◌and◌, ◌or◌, same, some_cong}
use Rattle.foundation.specs.TestLaws.{or_false, false_or, some_same}
use Rattle.foundation.specs.Bits.{bit-or, bit_shr, bit_shl, bit_shl_low, bit_mod, bit_high, bit_mask, bit_zero, or_to, or_to_bit, or_to_lt}
use Rattle.kind_words.specs.Lanes.{Lanes, lanes_or, lanes_eq, lane_at}

-- the 64 facts from f on
unfoldable pub facts_from : List ℕ → ℕ → ℕ
facts_from kind f =
    bit_or (get_or kind (1 + f / 64) 0 / 2 ^ (f % 64)) ((get_or kind (2 + f / 64) 0 * 2) % 2 ^ 64 * 2 ^ (63 - f % 64) % 2 ^ 64)

-- lanes of t bits made lanes of l bits
unfoldable pub widened : ℕ → ℕ → ℕ → ℕ → ℕ
widened o l t w = cond (eqb t l) w (or_to (λ q. bit_and (w / 2 ^ (q * t)) (2 ^ t - 1) * 2 ^ (q * l)) o)

-- every g-th bit of w from p on, t of them
abbrev pub narrowed_lane : ℕ → ℕ → ℕ → ℕ → ℕ
narrowed_lane w p g t = or_to (λ c. bit_and (w / 2 ^ (p + c * g)) 1 * 2 ^ c) t

-- every g-th bit of each lane of l bits, as lanes of t bits
unfoldable pub narrowed : ℕ → ℕ → ℕ → ℕ → ℕ → ℕ
narrowed o l t g w = cond (eqb t l) w (or_to (λ q. narrowed_lane w (q * l) g t * 2 ^ (q * t)) o)

-- a block of facts put at f
unfoldable pub with_block : List ℕ → ℕ → ℕ → List ℕ
with_block kind z f =
    set (set kind (1 + f / 64) (bit_or (get_or kind (1 + f / 64) 0) (z * 2 ^ (f % 64) % 2 ^ 64))) (2 + f / 64)
    (bit_or (get_or kind (2 + f / 64) 0) (z / 2 / 2 ^ (63 - f % 64)))

-- words of 64 bits
abbrev pub Words : List ℕ → Type 0
Words k = (j : ℕ) → get_or k j 0 < 2 ^ 64

pub facts_from_bit : (k : List ℕ) (f i : ℕ) → Words k → i < 64 → bit (facts_from k f) i ≡ bit (get_or k (1 + (f + i) / 64) 0) ((f + i) % 64)
unfolding facts_from
facts_from_bit k f i h hi = bit-or _ _ i ∙ go (dec_lt (f % 64 + i) 64)
  where
    d : ℕ
    d = f % 64

    x : ℕ
    x = get_or k (1 + f / 64) 0

    y : ℕ
    y = get_or k (2 + f / 64) 0

    go : Dec (f % 64 + i < 64)
        → (bit (get_or k (1 + f / 64) 0 / 2 ^ (f % 64)) i or bit ((get_or k (2 + f / 64) 0 * 2) % 2 ^ 64 * 2 ^ (63 - f % 64) % 2 ^ 64) i) ≡ bit (get_or k (1 + (f + i) / 64) 0) ((f + i) % 64)
    go (yes l) =
        let e1 : 1 + f / 64 ≡ 1 + (f + i) / 64 = omega arith in
        let e2 : f % 64 + i ≡ (f + i) % 64 = omega arith in
        or_false _ _ (bit_mod ((get_or k (2 + f / 64) 0 * 2) % 2 ^ 64 * 2 ^ (63 - f % 64)) 64 i hi ∙ low (dec_lt i (63 - f % 64)))
        ∙ bit_shr (get_or k (1 + f / 64) 0) (f % 64) i ∙ rw (e1, e2)
      where
        low : Dec (i < 63 - f % 64) → bit ((get_or k (2 + f / 64) 0 * 2) % 2 ^ 64 * 2 ^ (63 - f % 64)) i ≡ false
        low (yes s) = bit_shl_low _ (63 - f % 64) i s
        low (no ns) =
            let e : i ≡ (63 - f % 64) + 0 = omega arith in
            rw e (bit_shl _ (63 - f % 64) 0 ∙ bit_mod (get_or k (2 + f / 64) 0 * 2) 64 0 (omega arith) ∙ bit_shl_low (get_or k (2 + f / 64) 0) 1 0 (omega arith))
    go (no nl) =
        let r : ℕ = f % 64 + i - 64 in
        let e : i ≡ (63 - f % 64) + (1 + r) = omega arith in
        let e1 : 2 + f / 64 ≡ 1 + (f + i) / 64 = omega arith in
        let e2 : r ≡ (f + i) % 64 = omega arith in
        let b1 : bit (get_or k (1 + f / 64) 0 / 2 ^ (f % 64)) i ≡ false = bit_shr (get_or k (1 + f / 64) 0) (f % 64) i ∙ bit_high (get_or k (1 + f / 64) 0) 64 (f % 64 + i) (h (1 + f / 64)) (omega arith) in
        let b2 : bit ((get_or k (2 + f / 64) 0 * 2) % 2 ^ 64 * 2 ^ (63 - f % 64) % 2 ^ 64) i ≡ bit (get_or k (2 + f / 64) 0) r =
        bit_mod ((get_or k (2 + f / 64) 0 * 2) % 2 ^ 64 * 2 ^ (63 - f % 64)) 64 i hi
        ∙ ap (λ (j : ℕ). bit ((get_or k (2 + f / 64) 0 * 2) % 2 ^ 64 * 2 ^ (63 - f % 64)) j) e
        ∙ bit_shl _ (63 - f % 64) (1 + r) ∙ bit_mod (get_or k (2 + f / 64) 0 * 2) 64 (1 + r) (omega arith) ∙ bit_shl (get_or k (2 + f / 64) 0) 1 r in
        false_or _ _ b1 ∙ b2 ∙ ap₂ (λ (a b : ℕ). bit (get_or k a 0) b) e1 e2

-- lanes of t bits, laid out as lanes of l bits
pub widened_bit : (o l t w q c : ℕ) → 0 < t → t ≤ l → q < o → c < t → bit (widened o l t w) (q * l + c) ≡ bit w (q * t + c)
unfolding widened
widened_bit o l t w q c h0 h hq hc = go (ℕ_discrete t l)
  where
    m : ℕ → ℕ
    m y = bit_and (w / 2 ^ (y * t)) (2 ^ t - 1)

    small : (y : ℕ) → bit_and (w / 2 ^ (y * t)) (2 ^ t - 1) < 2 ^ l
    small y = let p : 2 ^ t ≤ 2 ^ l = pow_mono {i = t} {j = l} h in omega (arith, mask_lt (w / 2 ^ (y * t)) t)

    go : Dec (t ≡ l) → bit (widened o l t w) (q * l + c) ≡ bit w (q * t + c)
    go (yes e) = rw (eq-eqb t l e) (ap (λ (x : ℕ). bit w (q * x + c)) (sym e))
    go (no ne) =
        rw (ne_eqb t l ne)
        ((lanes_or o l (λ y. bit_and (w / 2 ^ (y * t)) (2 ^ t - 1) * 2 ^ (y * l)) (λ y q c. bit (bit_and (w / 2 ^ (y * t)) (2 ^ t - 1)) c and same q y) o
        (λ y hy. lane_at o l (bit_and (w / 2 ^ (y * t)) (2 ^ t - 1)) y (small y) hy)).bits q c hq (omega arith)
        ∙ some_same o q (λ y. bit (bit_and (w / 2 ^ (y * t)) (2 ^ t - 1)) c) hq
        ∙ bit_mask (w / 2 ^ (q * t)) t c hc ∙ bit_shr w (q * t) c)

-- six words that hold the bits of a number in words 1 to 5
pub record Holds (k : List ℕ) (Z : ℕ) : Type 0 where
  pub long : length k ≡ 6
  pub small : (j : ℕ) → get_or k j 0 < 2 ^ 64
  pub bits : (g : ℕ) → g < 320 → bit (get_or k (1 + g / 64) 0) (g % 64) ≡ bit Z g

or_right_false : (a b c : Bool) → a ≡ c → b ≡ false → a ≡ (c or b)
unfolding ◌or◌
or_right_false a b true e f = e
or_right_false a b false e f = e ∙ sym f

pub block_length : (k : List ℕ) (z f : ℕ) → length (with_block k z f) ≡ length k
unfolding with_block
block_length k z f = simp length-set

module _ (k : List ℕ) (Z z f : ℕ) (hold : Holds k Z) (hz : z < 2 ^ 64) (hf : f < 256) where
  pub block_at : (g : ℕ) → g < 320 → g / 64 ≡ f / 64 → bit (bit_or (get_or k (1 + f / 64) 0) (z * 2 ^ (f % 64) % 2 ^ 64)) (g % 64) ≡ bit (bit_or Z (z * 2 ^ f)) g
  block_at g hg e =
      bit-or _ _ (g % 64)
      ∙ ap₂ ◌or◌ (ap (λ (i : ℕ). bit (get_or k (1 + i) 0) (g % 64)) (sym e) ∙ hold.bits g hg)
      (bit_mod (z * 2 ^ (f % 64)) 64 (g % 64) (mod-lt g (omega arith)) ∙ go (dec_lt (g % 64) (f % 64)))
      ∙ sym (bit-or Z (z * 2 ^ f) g)
    where
      go : Dec (g % 64 < f % 64) → bit (z * 2 ^ (f % 64)) (g % 64) ≡ bit (z * 2 ^ f) g
      go (yes l) = bit_shl_low z (f % 64) (g % 64) l ∙ sym (bit_shl_low z f g (omega arith))
      go (no nl) =
          let r : ℕ = g - f in
          let a : g % 64 ≡ f % 64 + r = omega arith in
          let b : g ≡ f + r = omega arith in
          ap (λ (i : ℕ). bit (z * 2 ^ (f % 64)) i) a ∙ bit_shl z (f % 64) r ∙ sym (ap (λ (i : ℕ). bit (z * 2 ^ f) i) b ∙ bit_shl z f r)

  pub block_next : (g : ℕ) → g < 320 → g / 64 ≡ 1 + f / 64 → bit (bit_or (get_or k (2 + f / 64) 0) (z / 2 / 2 ^ (63 - f % 64))) (g % 64) ≡ bit (bit_or Z (z * 2 ^ f)) g
  block_next g hg e =
      let r : ℕ = g - f in
      let b : g ≡ f + r = omega arith in
      let a : 1 + ((63 - f % 64) + g % 64) ≡ r = omega arith in
      let w : 1 + g / 64 ≡ 2 + f / 64 = omega arith in
      bit-or _ _ (g % 64)
      ∙ ap₂ ◌or◌ (ap (λ (i : ℕ). bit (get_or k i 0) (g % 64)) (sym w) ∙ hold.bits g hg)
      (bit_shr (z / 2) (63 - f % 64) (g % 64) ∙ bit_shr z 1 ((63 - f % 64) + g % 64) ∙ ap (λ (i : ℕ). bit z i) a ∙ sym (ap (λ (i : ℕ). bit (z * 2 ^ f) i) b ∙ bit_shl z f r))
      ∙ sym (bit-or Z (z * 2 ^ f) g)

  pub block_other : (g : ℕ) → g < 320 → (g / 64 ≡ f / 64 → ⊥) → (g / 64 ≡ 1 + f / 64 → ⊥) → bit (get_or k (1 + g / 64) 0) (g % 64) ≡ bit (bit_or Z (z * 2 ^ f)) g
  block_other g hg ne ne' = or_right_false _ _ _ (hold.bits g hg) (go (dec_lt g f)) ∙ sym (bit-or Z (z * 2 ^ f) g)
    where
      go : Dec (g < f) → bit (z * 2 ^ f) g ≡ false
      go (yes l) = bit_shl_low z f g l
      go (no nl) =
          let r : ℕ = g - f in
          let b : g ≡ f + r = omega arith in
          ap (λ (i : ℕ). bit (z * 2 ^ f) i) b ∙ bit_shl z f r ∙ bit_high z 64 r hz (omega arith)

  abbrev A : ℕ
  A = bit_or (get_or k (1 + f / 64) 0) (z * 2 ^ (f % 64) % 2 ^ 64)

  abbrev B : ℕ
  B = bit_or (get_or k (2 + f / 64) 0) (z / 2 / 2 ^ (63 - f % 64))

  at_first : get_or (with_block k z f) (1 + f / 64) 0 ≡ A
  unfolding with_block
  at_first = get_or-set_other (set k (1 + f / 64) A) (2 + f / 64) (1 + f / 64) B 0 (λ e. omega arith) ∙ get_or-set_same k (1 + f / 64) A 0 (omega (arith, hold.long))

  at_next : get_or (with_block k z f) (2 + f / 64) 0 ≡ B
  unfolding with_block
  at_next = get_or-set_same (set k (1 + f / 64) A) (2 + f / 64) B 0 (simp length-set (omega (arith, hold.long)))

  at_other : (n : ℕ) → (n ≡ 1 + f / 64 → ⊥) → (n ≡ 2 + f / 64 → ⊥) → get_or (with_block k z f) n 0 ≡ get_or k n 0
  unfolding with_block
  at_other n h h' = get_or-set_other (set k (1 + f / 64) A) (2 + f / 64) n B 0 h' ∙ get_or-set_other k (1 + f / 64) n A 0 h

  pub block_holds : Holds (with_block k z f) (bit_or Z (z * 2 ^ f))
  block_holds = record { long = len; small = λ n. sm n (ℕ_discrete n (1 + f / 64)) (ℕ_discrete n (2 + f / 64)); bits = λ g hg. bt g hg (ℕ_discrete (g / 64) (f / 64)) (ℕ_discrete (g / 64) (1 + f / 64)) }
    where
      len : length (with_block k z f) ≡ 6
      len = block_length k z f ∙ hold.long

      sm : (n : ℕ) → Dec (n ≡ 1 + f / 64) → Dec (n ≡ 2 + f / 64) → get_or (with_block k z f) n 0 < 2 ^ 64
      sm n (yes e) d = rw (e, at_first) (or_lt 64 _ _ (hold.small (1 + f / 64)) (mod-lt (z * 2 ^ (f % 64)) (pow_pos 64)))
      sm n (no ne) (yes e) = rw (e, at_next) (or_lt 64 _ _ (hold.small (2 + f / 64)) (omega (arith, shr_le (z / 2) (63 - f % 64))))
      sm n (no ne) (no ne') = rw (at_other n ne ne') (hold.small n)

      bt : (g : ℕ) → g < 320 → Dec (g / 64 ≡ f / 64) → Dec (g / 64 ≡ 1 + f / 64) → bit (get_or (with_block k z f) (1 + g / 64) 0) (g % 64) ≡ bit (bit_or Z (z * 2 ^ f)) g
      bt g hg (yes e) d = ap (λ (i : ℕ). bit (get_or (with_block k z f) (1 + i) 0) (g % 64)) e ∙ ap (λ (w : ℕ). bit w (g % 64)) at_first ∙ block_at g hg e
      bt g hg (no ne) (yes e) =
          let e' : 1 + g / 64 ≡ 2 + f / 64 = omega arith in
          ap (λ (i : ℕ). bit (get_or (with_block k z f) i 0) (g % 64)) e' ∙ ap (λ (w : ℕ). bit w (g % 64)) at_next ∙ block_next g hg e
      bt g hg (no ne) (no ne') = ap (λ (w : ℕ). bit w (g % 64)) (at_other (1 + g / 64) (λ e. omega arith) (λ e. omega arith)) ∙ block_other g hg ne ne'

pub one_at : (x y t : ℕ) → y < t → (bit_and x 1 * 2 ^ y < 2 ^ t) × ((c : ℕ) → c < t → bit (bit_and x 1 * 2 ^ y) c ≡ (bit x 0 and same c y))
one_at x y t hy =
    let h = lane_at t 1 (bit_and x (2 ^ 1 - 1)) y (mask_lt x 1) hy in
    let ey : y * 1 ≡ y = mul-one y in
    let et : t * 1 ≡ t = mul-one t in
    (rw (ey, et) at h.small, λ c hc. let ec : c * 1 + 0 ≡ c = omega arith in (rw (ey, ec) at (h.bits c 0 hc (omega arith))) ∙ ap (λ (b : Bool). b and same c y) (bit_mask x 1 0 (omega arith)))

pub narrowed_lane_bit : (w p g t c : ℕ) → c < t → bit (narrowed_lane w p g t) c ≡ bit w (p + c * g)
narrowed_lane_bit w p g t c hc =
    or_to_bit _ t c
    ∙ some_cong t _ (λ y. bit w (p + y * g) and same c y) (λ y hy. (one_at (w / 2 ^ (p + y * g)) y t hy).1 c hc ∙ ap (λ (b : Bool). b and same c y) (bit_shr w (p + y * g) 0 ∙ ap (λ (i : ℕ). bit w i) (add-zero (p + y * g))))
    ∙ some_same t c (λ y. bit w (p + y * g)) hc

pub narrowed_lane_lt : (w p g t : ℕ) → narrowed_lane w p g t < 2 ^ t
narrowed_lane_lt w p g t = or_to_lt t _ t (λ y hy. (one_at (w / 2 ^ (p + y * g)) y t hy).0)

pub narrowed_lanes : (o l t g w : ℕ) → w < 2 ^ (o * l) → (t ≡ l → g ≡ 1) → Lanes o t (narrowed o l t g w) (λ q c. bit w (q * l + c * g))
unfolding narrowed
narrowed_lanes o l t g w hw h1 = go (ℕ_discrete t l)
  where
    go : Dec (t ≡ l) → Lanes o t (narrowed o l t g w) (λ q c. bit w (q * l + c * g))
    go (yes e) = rw (eq-eqb t l e) (record { small = rw e hw; bits = λ q c hq hc. let g1 : g ≡ 1 = h1 e in rw (e, g1) (ap (λ (i : ℕ). bit w (q * l + i)) (sym (mul-one c))) })
    go (no ne) =
        rw (ne_eqb t l ne)
        (lanes_eq o t (lanes_or o t (λ q. narrowed_lane w (q * l) g t * 2 ^ (q * t)) (λ y q c. bit (narrowed_lane w (y * l) g t) c and same q y) o (λ y hy. lane_at o t (narrowed_lane w (y * l) g t) y (narrowed_lane_lt w (y * l) g t) hy))
        (λ q c hq hc. some_same o q (λ y. bit (narrowed_lane w (y * l) g t) c) hq ∙ narrowed_lane_bit w (q * l) g t c hc))

-- every place of a list of zeros, and past it
pub zeros : (n j : ℕ) → ◌≡◌ {A = ℕ} (get_or (replicate n 0) j 0) 0
zeros zero j = refl
zeros (suc n) zero = refl
zeros (suc n) (suc j) = zeros n j

-- six zeros hold no fact
pub nothing_holds : Holds (replicate 6 0) 0
nothing_holds =
    record {
      long = refl;
      small = λ j. rw (zeros 6 j) (pow_pos 64);
      bits = λ g hg. ap (λ (x : ℕ). bit x (g % 64)) (zeros 6 (1 + g / 64)) ∙ bit_zero (g % 64) ∙ sym (bit_zero g);
    }
