-- The place of a symbol over two rows in the order of a round over n rows, and what stands at a place.
use mathlib.Core.Path.{◌≡◌}
use mathlib.Core.Logic.{inl, inr}
use Prim.Native.Nat.{ℕ, suc, ◌+◌, ◌*◌, ◌-◌, ◌/◌, ◌%◌, ◌<◌, ◌≤◌}
use native.Mathlib.Nat.{mul-le-mul_right, mod-lt, mul-pos, div-lt_iff_lt-mul, div-add-mod'}
use native.Mathlib.Omega.{arith}
use native.Mathlib.Decide.{dec_lt, ℕ_discrete}
use lib.Arith.{digits_lt, digits_div, digits_mod, mod-mul}
use Rattle.model.specs.Examining.{ListedBefore}

-- "symbols 1 to S − 1, left rows, right rows, ascending in that order"
abbrev pub place : (n symbol left right : ℕ) → ℕ
place n s i j = (s - 1) * (n * n) + (i * n + j)

module _ (n s i j : ℕ) (left< : i < n) (right< : j < n) where
  in_base : place n s i j ≡ ((s - 1) * n + i) * n + j
  in_base = omega arith

  pub place_symbol : 1 ≤ s → 1 + place n s i j / (n * n) ≡ s
  place_symbol h = let e : place n s i j / (n * n) ≡ s - 1 = digits_div (s - 1) (digits_lt left< right<) in omega arith

  pub place_left : place n s i j / n % n ≡ i
  place_left = rw (in_base, digits_div ((s - 1) * n + i) right<) (digits_mod (s - 1) left<)

  pub place_right : place n s i j % n ≡ j
  place_right = rw in_base (digits_mod ((s - 1) * n + i) right<)

  pub place_below : (S : ℕ) → 1 ≤ s → s < S → place n s i j < (S - 1) * (n * n)
  place_below S h l = digits_lt (omega arith) (digits_lt left< right<)

-- what stands at place c: a symbol over two rows
module _ (n : ℕ) (some : 0 < n) (c : ℕ) where
  pub at_place : place n (1 + c / (n * n)) (c / n % n) (c % n) ≡ c
  at_place =
      let split : c / (n * n) * (n * n) + c % (n * n) ≡ c = div-add-mod' c (n * n) in
      let low : c % (n * n) ≡ (c / n % n) * n + c % n = mod-mul c some some in
      let one : (1 + c / (n * n)) - 1 ≡ c / (n * n) = omega arith in
      rw one (omega arith)

  pub left_below : c / n % n < n
  left_below = mod-lt (c / n) some

  pub right_below : c % n < n
  right_below = mod-lt c some

  pub symbol_below : (S : ℕ) → c < (S - 1) * (n * n) → 1 + c / (n * n) < S
  symbol_below S h = omega (arith, (div-lt_iff_lt-mul (mul-pos some some)).1 h)

-- where loops over symbols, left rows and right rows begin, go on and end
pub place_first : (n : ℕ) → place n 1 0 0 ≡ 0
place_first n = omega arith

pub place_next_right : (n s i j : ℕ) → place n s i (suc j) ≡ suc (place n s i j)
place_next_right n s i j = omega arith

pub place_next_left : (n s i : ℕ) → place n s (suc i) 0 ≡ place n s i n
place_next_left n s i = omega arith

pub place_next_symbol : (n s : ℕ) → 1 ≤ s → place n (suc s) 0 0 ≡ place n s n 0
place_next_symbol n s h = let e : suc s - 1 ≡ suc (s - 1) = omega arith in rw e (omega arith)

pub place_last : (n S : ℕ) → place n S 0 0 ≡ (S - 1) * (n * n)
place_last n S = omega arith

-- an earlier left row comes earlier, and so does the same left row with an earlier right row
pub earlier-left : (n s i j k m : ℕ) → k < i → m < n → place n s k m < place n s i j
earlier-left n s i j k m h hj = let row : suc k * n ≤ i * n = mul-le-mul_right n h in omega arith

pub earlier-right : (n s i j m : ℕ) → m < j → place n s i m < place n s i j
earlier-right n s i j m h = omega arith

-- the order of places is "listing order"
module _ (n : ℕ) where
  earlier_symbol : (s i j t k m : ℕ) → 1 ≤ t → t < s → k < n → m < n → place n t k m < place n s i j
  earlier_symbol s i j t k m one h hk hm =
      let whole : place n t k m < (suc t - 1) * (n * n) = place_below n t k m hk hm (suc t) one (omega arith) in
      let same : suc t - 1 ≡ t = omega arith in
      let most : t * (n * n) ≤ (s - 1) * (n * n) = mul-le-mul_right (n * n) (omega arith) in
      omega (arith, rw same at whole)

  module _ (s i j t k m : ℕ) (one : 1 ≤ s) (left< : i < n) (right< : j < n) where
    pub before_place : ListedBefore s i j t k m → place n s i j < place n t k m
    before_place (inl h) = earlier_symbol t k m s i j one h left< right<
    before_place (inr (e, inl h)) = rw e (earlier-left n t k m i j h right<)
    before_place (inr (e, inr (f, h))) = rw (e, f) (earlier-right n t k m j h)

    pub place_before : 1 ≤ t → k < n → m < n → place n s i j < place n t k m → ListedBefore s i j t k m
    place_before one' hk hm h = by_symbol (dec_lt s t) (ℕ_discrete s t)
      where
        by_right : s ≡ t → i ≡ k → Dec (j < m) → ListedBefore s i j t k m
        by_right e f (yes l) = inr (e, inr (f, l))
        by_right e f (no l) = let less : place n t k j < place n t k m = rw (e, f) at h in absurd (omega arith)

        by_left : s ≡ t → Dec (i < k) → Dec (i ≡ k) → ListedBefore s i j t k m
        by_left e (yes l) d = inr (e, inl l)
        by_left e (no l) (yes f) = by_right e f (dec_lt j m)
        by_left e (no l) (no f) =
            let less : place n t i j < place n t k m = rw e at h in
            absurd (omega (arith, earlier-left n t i j k m (omega arith) hm))

        by_symbol : Dec (s < t) → Dec (s ≡ t) → ListedBefore s i j t k m
        by_symbol (yes l) d = inl l
        by_symbol (no l) (yes e) = by_left e (dec_lt i k) (ℕ_discrete i k)
        by_symbol (no l) (no e) = absurd (omega (arith, earlier_symbol s i j t k m one' (omega arith) hk hm))
