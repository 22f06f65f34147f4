-- Single bits of a word under or, and, shifts and masks; a word known by its bits; a word of lanes times single bits a lane apart.
use Rattle.std.specs.Prelude.{◌≡◌, refl, Bool, true, false, ℕ, zero, suc, ◌+◌, ◌*◌, ◌-◌, ◌/◌, ◌%◌, ◌^◌, ◌<◌, ◌≤◌, min, max, eqb}
use Rattle.std.proofs.Common.{ap, ap₂, sym, ◌∙◌, not-suc-le-zero, mod-lt, mod-eq_of_lt, add_comm, zero-add, add-zero, suc-add, add-one, arith, pow_pos, pow_mono, pow-add, shr-shr, shr_lt}
use Rattle.std.proofs.Math.Nat.{add-mul-div_right, add-mul-mod_self_right, div-eq_of_lt, zero-div}
use Rattle.std.proofs.Math.Decide.{ℕ_discrete}
use Rattle.std.proofs.Math.Arith.{digits_lt}
use Rattle.std.proofs.lemmas.Nat.{shl-shr, or_shr, or_lt, and_shr, and_mask}
use Rattle.std.proofs.Math.Pow.{split}
use Rattle.std.specs.Int.Bits.{bit_or, bit_and, or_step, and_step}
use Rattle.foundation.specs.Words.{bit, word, one_if}
use Rattle.foundation.specs.Tests.{◌and◌, ◌or◌, some_below}

or2 : (a b : ℕ) → a < 2 → b < 2 → eqb (max a b) 1 ≡ (eqb a 1 or eqb b 1)
unfolding ◌or◌
or2 zero zero h k = refl
or2 zero (suc zero) h k = refl
or2 (suc zero) zero h k = refl
or2 (suc zero) (suc zero) h k = refl
or2 zero (suc (suc b)) h k = absurd (omega arith)
or2 (suc zero) (suc (suc b)) h k = absurd (omega arith)
or2 (suc (suc a)) b h k = absurd (omega arith)

and2 : (a b : ℕ) → a < 2 → b < 2 → eqb (min a b) 1 ≡ (eqb a 1 and eqb b 1)
unfolding ◌and◌
and2 zero zero h k = refl
and2 zero (suc zero) h k = refl
and2 (suc zero) zero h k = refl
and2 (suc zero) (suc zero) h k = refl
and2 zero (suc (suc b)) h k = absurd (omega arith)
and2 (suc zero) (suc (suc b)) h k = absurd (omega arith)
and2 (suc (suc a)) b h k = absurd (omega arith)

pub bit-or : (x y i : ℕ) → bit (bit_or x y) i ≡ (bit x i or bit y i)
unfolding bit
bit-or x y i =
    let c : (x / 2 ^ i) % 2 < 2 = omega arith in
    let d : (y / 2 ^ i) % 2 < 2 = omega arith in
    let e : bit_or x y / 2 ^ i % 2 ≡ max (x / 2 ^ i % 2) (y / 2 ^ i % 2) = ap (λ (n : ℕ). n % 2) (or_shr x y i ∙ or_step (x / 2 ^ i) (y / 2 ^ i)) ∙ omega arith in
    ap (λ (n : ℕ). eqb n 1) e ∙ or2 (x / 2 ^ i % 2) (y / 2 ^ i % 2) c d

pub bit-and : (x y i : ℕ) → bit (bit_and x y) i ≡ (bit x i and bit y i)
unfolding bit
bit-and x y i =
    let c : (x / 2 ^ i) % 2 < 2 = omega arith in
    let d : (y / 2 ^ i) % 2 < 2 = omega arith in
    let e : bit_and x y / 2 ^ i % 2 ≡ min (x / 2 ^ i % 2) (y / 2 ^ i % 2) = ap (λ (n : ℕ). n % 2) (and_shr x y i ∙ and_step (x / 2 ^ i) (y / 2 ^ i)) ∙ omega arith in
    ap (λ (n : ℕ). eqb n 1) e ∙ and2 (x / 2 ^ i % 2) (y / 2 ^ i % 2) c d

pub bit_shr : (w k i : ℕ) → bit (w / 2 ^ k) i ≡ bit w (k + i)
unfolding bit
bit_shr w k i = ap (λ (n : ℕ). eqb (n % 2) 1) (shr-shr w k i)

pub bit_shl : (w k i : ℕ) → bit (w * 2 ^ k) (k + i) ≡ bit w i
unfolding bit
bit_shl w k i = ap (λ (n : ℕ). eqb (n % 2) 1) (sym (shr-shr (w * 2 ^ k) k i) ∙ ap (λ (n : ℕ). n / 2 ^ i) (shl-shr w k))

-- a bit below n is not changed by what is added at n
pub bit_below : (n i w c : ℕ) → i < n → bit (w + c * 2 ^ n) i ≡ bit w i
unfolding bit
bit_below n i w c h =
    let k : ℕ = n - suc i in
    let e : n ≡ (k + 1) + i = omega arith in
    let p : 2 ^ n ≡ 2 ^ (k + 1) * 2 ^ i = ap (λ (m : ℕ). 2 ^ m) e ∙ pow-add 2 (k + 1) i in
    let q : 2 ^ (k + 1) ≡ 2 ^ k * 2 = pow-add 2 k 1 in
    let r : c * 2 ^ n ≡ (c * 2 ^ k * 2) * 2 ^ i = rw (p, q) (omega arith) in
    let t : (w + c * 2 ^ n) / 2 ^ i % 2 ≡ w / 2 ^ i % 2 = rw r (rw (add-mul-div_right w (c * 2 ^ k * 2) (pow_pos i)) (add-mul-mod_self_right (w / 2 ^ i) (c * 2 ^ k) 2)) in
    ap (λ (x : ℕ). eqb x 1) t

-- a bit from n on is one of what is added at n
pub bit_above : (n i w c : ℕ) → w < 2 ^ n → bit (w + c * 2 ^ n) (n + i) ≡ bit c i
bit_above n i w c h =
    let e : (w + c * 2 ^ n) / 2 ^ n ≡ c = add-mul-div_right w c (pow_pos n) ∙ rw (div-eq_of_lt h) (omega arith) in
    sym (bit_shr (w + c * 2 ^ n) n i) ∙ ap (λ (x : ℕ). bit x i) e

pub bit_zero : (i : ℕ) → bit 0 i ≡ false
unfolding bit
bit_zero i = rw (zero-div (2 ^ i))

pub bit_shl_low : (w k i : ℕ) → i < k → bit (w * 2 ^ k) i ≡ false
bit_shl_low w k i h = rw zero-add at (bit_below k i 0 w h) ∙ bit_zero i

pub bit_high : (w n i : ℕ) → w < 2 ^ n → n ≤ i → bit w i ≡ false
unfolding bit
bit_high w n i h l =
    let p : 2 ^ n ≤ 2 ^ i = pow_mono {i = n} {j = i} l in
    let e : w / 2 ^ i ≡ 0 = div-eq_of_lt (omega arith) in
    rw e

pub bit_mod : (w n i : ℕ) → i < n → bit (w % 2 ^ n) i ≡ bit w i
bit_mod w n i h = sym (bit_below n i (w % 2 ^ n) (w / 2 ^ n) h) ∙ ap (λ (x : ℕ). bit x i) (add_comm (w % 2 ^ n) (w / 2 ^ n * 2 ^ n) ∙ split w n)

pub bit_mask : (w n i : ℕ) → i < n → bit (bit_and w (2 ^ n - 1)) i ≡ bit w i
bit_mask w n i h = ap (λ (x : ℕ). bit x i) (and_mask w n) ∙ bit_mod w n i h

one_bit : (x : ℕ) → x < 2 → x ≡ one_if (eqb x 1)
one_bit zero h = refl
one_bit (suc zero) h = refl
one_bit (suc (suc x)) h = absurd (omega arith)

upper : (n w : ℕ) → w < 2 ^ suc n → w / 2 ^ n < 2
upper n w h = shr_lt {n = w} 1 n (rw suc-add (rw zero-add h))

top : (n w : ℕ) (c : Bool) → w / 2 ^ n < 2 → bit w n ≡ c → w / 2 ^ n ≡ one_if c
unfolding bit
top n w c t u = one_bit (w / 2 ^ n) t ∙ ap one_if (ap (λ (x : ℕ). eqb x 1) (sym (mod-eq_of_lt t)) ∙ u)

-- a word is known by its bits
pub word_unique : (n w : ℕ) (f : ℕ → Bool) → w < 2 ^ n → ((i : ℕ) → i < n → bit w i ≡ f i) → w ≡ word n f
unfolding word
word_unique zero w f h b = omega arith
word_unique (suc n) w f h b =
    let lo : w % 2 ^ n ≡ word n f = word_unique n (w % 2 ^ n) f (mod-lt w (pow_pos n)) (λ i l. bit_mod w n i l ∙ b i (omega arith)) in
    let v : w / 2 ^ n ≡ one_if (f n) = top n w (f n) (upper n w h) (b n (omega arith)) in
    sym (split w n) ∙ ap₂ (λ (x y : ℕ). x * 2 ^ n + y) v lo ∙ add_comm (one_if (f n) * 2 ^ n) (word n f)

none_word : (n : ℕ) → word n (λ i. false) ≡ 0
unfolding word
none_word zero = refl
none_word (suc n) = rw (none_word n) (omega arith)

pub zero_bits : (n w : ℕ) → w < 2 ^ n → ((i : ℕ) → i < n → bit w i ≡ false) → w ≡ 0
zero_bits n w h b = word_unique n w (λ i. false) h b ∙ none_word n

-- a word below 2 ^ l whose bits but the lowest are 0
single : (l w : ℕ) → w < 2 ^ suc l → ((c : ℕ) → 0 < c → c < suc l → bit w c ≡ false) → w ≡ one_if (bit w 0)
unfolding bit
single l w h b =
    let z : w / 2 ≡ 0 = zero_bits l (w / 2) (omega arith) (λ i k. bit_half w i ∙ b (suc i) (omega arith) (omega arith)) in
    let t : w < 2 = omega arith in
    let u : w ≡ w / 2 ^ 0 % 2 = omega arith in
    one_bit w t ∙ ap one_if (ap (λ (x : ℕ). eqb x 1) u)
  where
    bit_half : (w i : ℕ) → bit (w / 2) i ≡ bit w (suc i)
    bit_half w i = bit_shr w 1 i ∙ ap (λ (x : ℕ). bit w x) (omega arith)

mul-one : (m i : ℕ) (b : Bool) → bit (m * one_if b) i ≡ (bit m i and b)
unfolding ◌and◌
mul-one m i true = go (bit m i) (ap (λ (x : ℕ). bit x i) (omega arith))
  where
    go : (c : Bool) → bit (m * 1) i ≡ c → bit (m * 1) i ≡ (c and true)
    go true e = e
    go false e = e
mul-one m i false = go (bit m i) (ap (λ (x : ℕ). bit x i) (omega arith) ∙ bit_zero i)
  where
    go : (c : Bool) → bit (m * 0) i ≡ false → bit (m * 0) i ≡ (c and false)
    go true e = e
    go false e = e

-- lanes of l bits times a word whose bits stand l apart: each lane that has its bit is the lane word
module _ (l m : ℕ) (hm : m < 2 ^ suc l) where
  pub record Spread (n w : ℕ) : Type 0 where
    pub small : m * w < 2 ^ (n * suc l)
    pub bits : (q c : ℕ) → q < n → c < suc l → bit (m * w) (q * suc l + c) ≡ (bit m c and bit w (q * suc l))

  pub spread_suc : (n w : ℕ) → w < 2 ^ (n * suc l) → ((q c : ℕ) → q < n → 0 < c → c < suc l → bit w (q * suc l + c) ≡ false) → Spread n w
  spread_suc zero w h b = record { small = go; bits = λ q c hq hc. absurd (not-suc-le-zero hq) }
    where
      go : m * w < 2 ^ (zero * suc l)
      go = let z : w ≡ 0 = zero_bits (zero * suc l) w h (λ i k. absurd (omega arith)) in rw z (omega (arith, pow_pos (zero * suc l)))
  spread_suc (suc n) w h b =
      let k : ℕ = n * suc l in
      let lo : ℕ = w % 2 ^ k in
      let hi : ℕ = w / 2 ^ k in
      let e : suc n * suc l ≡ suc l + k = omega arith in
      let h' : w < 2 ^ (suc l + k) = rw e at h in
      let hh : hi < 2 ^ suc l = shr_lt {n = w} (suc l) k h' in
      let hb : (c : ℕ) → bit hi c ≡ bit w (k + c) = λ c. bit_shr w k c in
      let one : hi ≡ one_if (bit hi 0) = single l hi hh (λ c p q. hb c ∙ b n c (omega arith) p q) in
      let low : Spread n lo = spread_suc n lo (mod-lt w (pow_pos k)) (λ q c hq p hc. bit_mod w k (q * suc l + c) (digits_lt hq hc) ∙ b q c (omega arith) p hc) in
      let parts : m * w ≡ m * lo + (m * hi) * 2 ^ k = parted w k in
      let mh : m * hi < 2 ^ suc l = le_one (bit hi 0) one in
      record {
        small = rw (e, parts, pow-add 2 (suc l) k) (rw (add_comm (m * lo) (m * hi * 2 ^ k)) (digits_lt mh low.small));
        bits = λ q c hq hc. rw parts (pick_bit q c hq hc hi lo (ℕ_discrete q n) low one (hb 0) (λ i k'. bit_mod w k i k'));
      }
    where
      parted : (w k : ℕ) → m * w ≡ m * (w % 2 ^ k) + (m * (w / 2 ^ k)) * 2 ^ k
      parted w k = let s = split w k in ap (λ (x : ℕ). m * x) (sym s) ∙ omega arith

      le_one : (b : Bool) → w / 2 ^ (n * suc l) ≡ one_if b → m * (w / 2 ^ (n * suc l)) < 2 ^ suc l
      le_one true e = rw e (omega arith)
      le_one false e = rw e (omega arith)

      pick_bit : (q c : ℕ) → q < suc n → c < suc l → (hi lo : ℕ) → Dec (q ≡ n) → Spread n lo → hi ≡ one_if (bit hi 0) → bit hi 0 ≡ bit w (n * suc l + 0)
          → ((i : ℕ) → i < n * suc l → bit lo i ≡ bit w i)
          → bit (m * lo + m * hi * 2 ^ (n * suc l)) (q * suc l + c) ≡ (bit m c and bit w (q * suc l))
      pick_bit q c hq hc hi lo (yes e) low one z lob =
          let z' : bit hi 0 ≡ bit w (n * suc l) = z ∙ ap (λ (i : ℕ). bit w i) (add-zero (n * suc l)) in
          rw e (bit_above (n * suc l) c (m * lo) (m * hi) low.small ∙ ap (λ (x : ℕ). bit (m * x) c) one ∙ mul-one m c (bit hi 0) ∙ ap (λ (x : Bool). bit m c and x) z')
      pick_bit q c hq hc hi lo (no ne) low one z lob =
          let hn : q < n = omega arith in
          let z0 : 0 < suc l = omega arith in
          let at : q * suc l < n * suc l = rw add-zero at (digits_lt hn z0) in
          bit_below (n * suc l) (q * suc l + c) (m * lo) (m * hi) (digits_lt hn hc) ∙ low.bits q c hn hc
          ∙ ap (λ (x : Bool). bit m c and x) (lob (q * suc l) at)

pub spread : (L m n w : ℕ) → 0 < L → m < 2 ^ L → w < 2 ^ (n * L) → ((q c : ℕ) → q < n → 0 < c → c < L → bit w (q * L + c) ≡ false)
    → (m * w < 2 ^ (n * L)) × ((q c : ℕ) → q < n → c < L → bit (m * w) (q * L + c) ≡ (bit m c and bit w (q * L)))
spread zero m n w p hm h b = absurd (not-suc-le-zero p)
spread (suc l) m n w p hm h b = let f = spread_suc l m hm n w h b in (f.small, f.bits)

pub bit_ones : (l c : ℕ) → c < l → bit (2 ^ l - 1) c ≡ true
unfolding bit ◌and◌
bit_ones l c h =
    let one : bit (1 * 2 ^ c) c ≡ true = ap (λ (i : ℕ). bit (1 * 2 ^ c) i) (sym (add-zero c)) ∙ bit_shl 1 c 0 in
    let e : (bit (1 * 2 ^ c) c and bit (2 ^ l - 1) c) ≡ bit (1 * 2 ^ c) c = sym (bit-and (1 * 2 ^ c) (2 ^ l - 1) c) ∙ bit_mask (1 * 2 ^ c) l c h in
    rw one at e

-- the or of g 0 to g (n - 1): what a loop `w = w | ..` leaves
unfoldable pub or_to : (ℕ → ℕ) → ℕ → ℕ
or_to g zero = 0
or_to g (suc n) = bit_or (or_to g n) (g n)

pub or_none : (g : ℕ → ℕ) → 0 ≡ or_to g 0
unfolding or_to
or_none g = refl

pub or_more : (g : ℕ → ℕ) (n w z : ℕ) → w ≡ or_to g n → z ≡ g n → bit_or w z ≡ or_to g (n + 1)
unfolding or_to
or_more g n w z e f = rw add-one (ap₂ bit_or e f)

pub or_to_bit : (g : ℕ → ℕ) (n i : ℕ) → bit (or_to g n) i ≡ some_below n (λ y. bit (g y) i)
unfolding or_to some_below
or_to_bit g zero i = bit_zero i
or_to_bit g (suc n) i = bit-or (or_to g n) (g n) i ∙ ap (λ (b : Bool). b or bit (g n) i) (or_to_bit g n i)

pub or_to_lt : (k : ℕ) (g : ℕ → ℕ) (n : ℕ) → ((y : ℕ) → y < n → g y < 2 ^ k) → or_to g n < 2 ^ k
unfolding or_to
or_to_lt k g zero h = pow_pos k
or_to_lt k g (suc n) h = or_lt k (or_to g n) (g n) (or_to_lt k g n (λ y l. h y (omega arith))) (h n (omega arith))
