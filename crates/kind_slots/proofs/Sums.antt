-- The sums of five words, word by word: dropping the carry at each addition drops it from the whole.
use Rattle.std.proofs.Common.{◌≡◌, ℕ, zero, suc, ◌+◌, ◌%◌, ◌^◌, List, get_or, refl, ap, ◌∙◌, add-one, arith, ◌*◌}
use Rattle.kind_slots.specs.Slots.{kind_sum, weighted_sum}

-- the words before place i added, and the sums so far added
unfoldable pub plain_to : List ℕ → ℕ → ℕ
plain_to kind zero = 0
plain_to kind (suc i) = (plain_to kind i + get_or kind i 0) % 2 ^ 64

unfoldable pub weighted_to : List ℕ → ℕ → ℕ
weighted_to kind zero = 0
weighted_to kind (suc i) = (weighted_to kind i + plain_to kind (suc i)) % 2 ^ 64

pub sums_none : (kind : List ℕ) → (0 ≡ plain_to kind 0) × (0 ≡ weighted_to kind 0)
unfolding plain_to weighted_to
sums_none kind = (refl, refl)

-- one word more
pub sums_more : (kind : List ℕ) (i plain weighted word : ℕ) → plain ≡ plain_to kind i → weighted ≡ weighted_to kind i → word ≡ get_or kind i 0
    → ((plain + word) % 2 ^ 64 ≡ plain_to kind (i + 1)) × ((weighted + (plain + word) % 2 ^ 64) % 2 ^ 64 ≡ weighted_to kind (i + 1))
unfolding plain_to weighted_to
sums_more kind i plain weighted word p w e = rw (p, w, e, add-one) (refl, refl)

-- numbers without their carries are added
sum_of_two : (p q : ℕ) {x y r : ℕ} → x ≡ p % 2 ^ 64 → y ≡ q % 2 ^ 64 → r ≡ (x + y) % 2 ^ 64 → r ≡ (p + q) % 2 ^ 64
sum_of_two p q e f g = omega arith

sum_and_word : (p b : ℕ) {x r : ℕ} → x ≡ p % 2 ^ 64 → r ≡ (x + b) % 2 ^ 64 → r ≡ (p + b) % 2 ^ 64
sum_and_word p b e g = omega arith

module _ (kind : List ℕ) where
  abbrev plain_after : ℕ → ℕ
  plain_after zero = 0
  plain_after (suc i) = plain_after i + get_or kind i 0

  abbrev weighted_after : ℕ → ℕ
  weighted_after zero = 0
  weighted_after (suc i) = weighted_after i + plain_after (suc i)

  plain_is : (i : ℕ) → plain_to kind i ≡ plain_after i % 2 ^ 64
  unfolding plain_to
  plain_is zero = refl
  plain_is (suc i) = sum_and_word (plain_after i) (get_or kind i 0) (plain_is i) refl

  weighted_is : (i : ℕ) → weighted_to kind i ≡ weighted_after i % 2 ^ 64
  unfolding weighted_to
  weighted_is zero = refl
  weighted_is (suc i) = sum_of_two (weighted_after i) (plain_after (suc i)) (weighted_is i) (plain_is (suc i)) refl

-- all five
pub sums_all : (kind : List ℕ) (i plain weighted : ℕ) → i ≡ 5 → plain ≡ plain_to kind i → weighted ≡ weighted_to kind i
    → (plain ≡ kind_sum kind) × (weighted ≡ weighted_sum kind)
unfolding kind_sum weighted_sum
sums_all kind i plain weighted e p w =
    (p ∙ ap (plain_to kind) e ∙ plain_is kind 5 ∙ ap (λ (x : ℕ). x % 2 ^ 64) (omega arith), w ∙ ap (weighted_to kind) e ∙ weighted_is kind 5 ∙ ap (λ (x : ℕ). x % 2 ^ 64) (omega arith))

word_and_sum : (a q : ℕ) {y r : ℕ} → y ≡ q % 2 ^ 64 → r ≡ (a + y) % 2 ^ 64 → r ≡ (a + q) % 2 ^ 64
word_and_sum a q f g = omega arith

module _ (a b c d e : ℕ) {two three four five : ℕ}
    (p : two ≡ (a + b) % 2 ^ 64) (q : three ≡ (two + c) % 2 ^ 64) (r : four ≡ (three + d) % 2 ^ 64) (s : five ≡ (four + e) % 2 ^ 64) where
  to_three : three ≡ (a + b + c) % 2 ^ 64
  to_three = sum_and_word (a + b) c p q

  to_four : four ≡ (a + b + c + d) % 2 ^ 64
  to_four = sum_and_word (a + b + c) d to_three r

  pub sum_of_words : five ≡ (a + b + c + d + e) % 2 ^ 64
  sum_of_words = sum_and_word (a + b + c + d) e to_four s

  -- the sum of the sums so far
  pub sum_of_sums : {first second third all : ℕ} → first ≡ (a + two) % 2 ^ 64 → second ≡ (first + three) % 2 ^ 64 → third ≡ (second + four) % 2 ^ 64
      → all ≡ (third + five) % 2 ^ 64
      → all ≡ (5 * a + 4 * b + 3 * c + 2 * d + e) % 2 ^ 64
  sum_of_sums t u v w =
      let from_First = word_and_sum a (a + b) p t in
      let from_Second = sum_of_two (a + (a + b)) (a + b + c) from_First to_three u in
      let from-third = sum_of_two (a + (a + b) + (a + b + c)) (a + b + c + d) from_Second to_four v in
      sum_of_two (a + (a + b) + (a + b + c) + (a + b + c + d)) (a + b + c + d + e) from-third sum_of_words w
      ∙ ap (λ (x : ℕ). x % 2 ^ 64) (omega arith)
