-- Words made of tests: bit i of `word n f` is the test f at i.
use Rattle.std.specs.Prelude.{◌≡◌, refl, Bool, true, false, ℕ, zero, suc, ◌+◌, ◌*◌, ◌-◌, ◌/◌, ◌%◌, ◌^◌, ◌<◌, eqb}
use Rattle.std.proofs.Common.{ap, ◌∙◌, not-suc-le-zero, arith, pow_pos, pow-add}
use Rattle.std.proofs.Math.Nat.{add-mul-div_right, add-mul-mod_self_right, div-eq_of_lt}
use Rattle.std.proofs.Math.Decide.{ℕ_discrete}

-- bit i of w
unfoldable pub bit : ℕ → ℕ → Bool
bit w i = eqb (w / 2 ^ i % 2) 1

abbrev pub one_if : Bool → ℕ
one_if true = 1
one_if false = 0

-- the number below 2 ^ n whose bits are the tests f 0 to f (n - 1)
unfoldable pub word : ℕ → (ℕ → Bool) → ℕ
word zero f = 0
word (suc n) f = word n f + one_if (f n) * 2 ^ n

-- a number with one more bit on top
pub topped_lt : (n w : ℕ) (b : Bool) → w < 2 ^ n → w + one_if b * 2 ^ n < 2 ^ suc n
topped_lt n w true h = omega arith
topped_lt n w false h = omega arith

pub word_lt : (n : ℕ) (f : ℕ → Bool) → word n f < 2 ^ n
unfolding word
word_lt zero f = omega arith
word_lt (suc n) f = topped_lt n (word n f) (f n) (word_lt n f)

pub word_cong : (n : ℕ) (f g : ℕ → Bool) → ((i : ℕ) → i < n → f i ≡ g i) → word n f ≡ word n g
unfolding word
word_cong zero f g h = refl
word_cong (suc n) f g h = rw (word_cong n f g (λ i l. h i (omega arith)), h n (omega arith))

bit_one : (b : Bool) → eqb (one_if b % 2) 1 ≡ b
bit_one true = refl
bit_one false = refl

-- the top bit of a word
top : (n w : ℕ) (b : Bool) → w < 2 ^ n → (w + one_if b * 2 ^ n) / 2 ^ n ≡ one_if b
top n w b h = add-mul-div_right w (one_if b) (pow_pos n) ∙ rw (div-eq_of_lt h) (omega arith)

-- a lower bit is that of the rest
lower : (n i w c : ℕ) → i < n → (w + c * 2 ^ n) / 2 ^ i % 2 ≡ w / 2 ^ i % 2
lower n i w c h =
    let k : ℕ = n - suc i in
    let e : n ≡ (k + 1) + i = omega arith in
    let p : 2 ^ n ≡ 2 ^ (k + 1) * 2 ^ i = ap (λ (m : ℕ). 2 ^ m) e ∙ pow-add 2 (k + 1) i in
    let q : 2 ^ (k + 1) ≡ 2 ^ k * 2 = pow-add 2 k 1 in
    let r : c * 2 ^ n ≡ (c * 2 ^ k * 2) * 2 ^ i = rw (p, q) (omega arith) in
    rw r (rw (add-mul-div_right w (c * 2 ^ k * 2) (pow_pos i)) (add-mul-mod_self_right (w / 2 ^ i) (c * 2 ^ k) 2))

pub bit_word : (n : ℕ) (f : ℕ → Bool) (i : ℕ) → i < n → bit (word n f) i ≡ f i
unfolding word bit
bit_word zero f i h = absurd (not-suc-le-zero h)
bit_word (suc n) f i h = go (λ (l : i < n). bit_word n f i l) (ℕ_discrete i n)
  where
    go : (i < n → bit (word n f) i ≡ f i) → Dec (i ≡ n) → bit (word (suc n) f) i ≡ f i
    go k (yes e) = rw e (ap (λ (x : ℕ). eqb (x % 2) 1) (top n (word n f) (f n) (word_lt n f)) ∙ bit_one (f n))
    go k (no ne) = ap (λ (x : ℕ). eqb x 1) (lower n i (word n f) (one_if (f n)) (omega arith)) ∙ k (omega arith)
