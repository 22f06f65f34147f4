-- Combinations that code may pass over: those whose state is listed when their turn comes add nothing.
use mathlib.Core.Path.{◌≡◌, refl, ap, ◌∙◌}
use mathlib.Core.List.{List}
use Prim.Native.Nat.{ℕ, zero, suc, ◌+◌, ◌-◌, ◌<◌, ◌≤◌}
use native.Mathlib.Nat.{zero-add, suc-add}
use native.Mathlib.Omega.{arith}
use lib.ListN.{length}
use Rattle.foundation.specs.Tests.{test_true}
use Rattle.model.specs.Rounds.{TreeAutomaton, Listed, state_at, added, combination, round_to, round, rounds}
use Rattle.model.proofs.Rounds.Growth.{begins_state, added_old, rows_begin, round_begins}
use Rattle.model.proofs.Rounds.Places.{place, place_first, place_next_right, place_next_left, place_next_symbol, place_last, earlier-left, earlier-right}
use Rattle.model.proofs.Rounds.Covering.{Decides, HasState, has_later, has_lists, combination_at, combination_listed, combination_state, round_lists}

module _ (A : TreeAutomaton) where
  -- a round goes from the first place to that of the first symbol that is none
  pub round_start : (rows : List (Listed A)) → round_to A rows (place (length rows) 1 0 0) ≡ rows
  unfolding round_to
  round_start rows = rw (place_first (length rows))

  pub round_end : (rows : List (Listed A)) → round_to A rows (place (length rows) A.symbols 0 0) ≡ round A rows
  unfolding round
  round_end rows = rw (place_last (length rows) A.symbols)

  -- the row of symbol s over rows i and j
  abbrev pub pair_row : List (Listed A) → (s i j : ℕ) → Listed A
  pair_row rows s i j = record { symbol = s; left = i; right = j; state = A.next s (state_at A rows i) (state_at A rows j) }

  -- visiting that pair
  pub step : (rows : List (Listed A)) (s i j : ℕ) → 1 ≤ s → i < length rows → j < length rows
      → round_to A rows (place (length rows) s i (suc j)) ≡ added A (round_to A rows (place (length rows) s i j)) (pair_row rows s i j)
  unfolding round_to
  step rows s i j h hi hj =
      rw (place_next_right (length rows) s i j)
      (ap (λ (row : Listed A). added A (round_to A rows (place (length rows) s i j)) row) (combination_at A rows s i j h hi hj))

  -- the pair of symbol s over rows i and j is listed when its turn comes
  abbrev pub PairListed : List (Listed A) → (s i j : ℕ) → Type 0
  PairListed rows s i j = HasState A (round_to A rows (place (length rows) s i j)) (A.next s (state_at A rows i) (state_at A rows j))

module _ (A : TreeAutomaton) (decides : Decides A) where
  -- a row whose state is listed is not added
  pub added_listed : (rows : List (Listed A)) (row : Listed A) → HasState A rows row.state → added A rows row ≡ rows
  added_listed rows row h = added_old A rows row (test_true _ (has_lists A decides rows row.state h))

  skip_after : (rows : List (Listed A)) (c d : ℕ)
      → ((e : ℕ) → c ≤ e → e < d + c → HasState A (round_to A rows e) (combination A rows (length rows) e).state)
      → round_to A rows (d + c) ≡ round_to A rows c
  unfolding round_to
  skip_after rows c zero listed = rw zero-add
  skip_after rows c (suc d) listed =
      rw suc-add
      (added_listed (round_to A rows (d + c)) (combination A rows (length rows) (d + c)) (listed (d + c) (omega arith) (omega arith))
      ∙ skip_after rows c d (λ e p q. listed e p (omega arith)))

  -- a stretch of combinations, from place c to before place d, each listed when its turn comes, changes nothing
  pub skip : (rows : List (Listed A)) (c d : ℕ) → c ≤ d
      → ((e : ℕ) → c ≤ e → e < d → HasState A (round_to A rows e) (combination A rows (length rows) e).state)
      → round_to A rows d ≡ round_to A rows c
  skip rows c d l listed =
      let q : (d - c) + c ≡ d = omega arith in
      rw q at (skip_after rows c (d - c) (λ e p r. listed e p (omega arith)))

  -- passing over a pair
  pub skip_pair : (rows : List (Listed A)) (s i j : ℕ) → 1 ≤ s → i < length rows → j < length rows
      → PairListed A rows s i j
      → round_to A rows (place (length rows) s i (suc j)) ≡ round_to A rows (place (length rows) s i j)
  skip_pair rows s i j h hi hj listed = step A rows s i j h hi hj ∙ added_listed (round_to A rows (place (length rows) s i j)) (pair_row A rows s i j) listed

  right_after : (rows : List (Listed A)) (s i j d : ℕ) → 1 ≤ s → i < length rows → d + j ≤ length rows
      → ((k : ℕ) → j ≤ k → k < d + j → PairListed A rows s i k)
      → round_to A rows (place (length rows) s i (d + j)) ≡ round_to A rows (place (length rows) s i j)
  right_after rows s i j zero h hi hj listed = rw zero-add
  right_after rows s i j (suc d) h hi hj listed =
      rw suc-add
      (skip_pair rows s i (d + j) h hi (omega arith) (listed (d + j) (omega arith) (omega arith))
      ∙ right_after rows s i j d h hi (omega arith) (λ k p l. listed k p (omega arith)))

  -- the right rows from j to before k, all passed over
  pub skip_right : (rows : List (Listed A)) (s i j k : ℕ) → 1 ≤ s → i < length rows → j ≤ k → k ≤ length rows
      → ((m : ℕ) → j ≤ m → m < k → PairListed A rows s i m)
      → round_to A rows (place (length rows) s i k) ≡ round_to A rows (place (length rows) s i j)
  skip_right rows s i j k h hi jk hk listed =
      let q : (k - j) + j ≡ k = omega arith in
      rw q at (right_after rows s i j (k - j) h hi (omega arith) (λ m p l. listed m p (omega arith)))

  -- a left row passed over whole
  pub skip_left : (rows : List (Listed A)) (s i : ℕ) → 1 ≤ s → i < length rows → ((k : ℕ) → k < length rows → PairListed A rows s i k)
      → round_to A rows (place (length rows) s (suc i) 0) ≡ round_to A rows (place (length rows) s i 0)
  skip_left rows s i h hi listed =
      rw (place_next_left (length rows) s i) (skip_right rows s i 0 (length rows) h hi (omega arith) (omega arith) (λ k p l. listed k l))

  lefts_below : (rows : List (Listed A)) (s i : ℕ) → 1 ≤ s → i ≤ length rows
      → ((k m : ℕ) → k < i → m < length rows → PairListed A rows s k m)
      → round_to A rows (place (length rows) s i 0) ≡ round_to A rows (place (length rows) s 0 0)
  lefts_below rows s zero h hi listed = refl
  lefts_below rows s (suc i) h hi listed =
      skip_left rows s i h hi (λ k l. listed i k (omega arith) l) ∙ lefts_below rows s i h (omega arith) (λ k m p l. listed k m (omega arith) l)

  -- a symbol passed over whole
  pub skip_symbol : (rows : List (Listed A)) (s : ℕ) → 1 ≤ s → ((i j : ℕ) → i < length rows → j < length rows → PairListed A rows s i j)
      → round_to A rows (place (length rows) (suc s) 0 0) ≡ round_to A rows (place (length rows) s 0 0)
  skip_symbol rows s h listed = rw (place_next_symbol (length rows) s h) (lefts_below rows s (length rows) h (omega arith) listed)

  -- two rows of an earlier round: the round before listed them
  pub old_pair_listed : (before : List (Listed A)) (s i j c : ℕ) → 1 ≤ s → s < A.symbols → i < length before → j < length before
      → HasState A (round_to A (round A before) c) (A.next s (state_at A (round A before) i) (state_at A (round A before) j))
  old_pair_listed before s i j c h h_s hi hj =
      let grown = round_begins A before in
      let l = round_lists A decides before s i j h h_s hi hj in
      has_later (rows_begin A (round A before) c) (rw (← begins_state grown i hi, ← begins_state grown j hj) at l)

  pub old_pair_rounds : (h s i j : ℕ) → 1 ≤ s → s < A.symbols → i < length (rounds A h) → j < length (rounds A h) → PairListed A (rounds A (suc h)) s i j
  unfolding rounds
  old_pair_rounds h s i j l l_s hi hj = old_pair_listed (rounds A h) s i j (place (length (round A (rounds A h))) s i j) l l_s hi hj

  -- a pair whose state is that of an earlier pair of the same round
  pub same_pair_listed : (rows : List (Listed A)) (s i j t k m c : ℕ) → 1 ≤ t → k < length rows → m < length rows
      → A.next s (state_at A rows i) (state_at A rows j) ≡ A.next t (state_at A rows k) (state_at A rows m)
      → place (length rows) t k m < c
      → HasState A (round_to A rows c) (A.next s (state_at A rows i) (state_at A rows j))
  same_pair_listed rows s i j t k m c h hk hm e l =
      rw e (rw (combination_state A rows t k m h hk hm) at (combination_listed A decides rows (place (length rows) t k m) c l))

  -- a left row whose states with every right row are those of an earlier left row
  pub same_left_listed : (rows : List (Listed A)) (s i k : ℕ) → 1 ≤ s → k < i → i < length rows
      → ((q : A.State) → A.next s (state_at A rows i) q ≡ A.next s (state_at A rows k) q)
      → (j : ℕ) → j < length rows → PairListed A rows s i j
  same_left_listed rows s i k h l hi e j hj =
      same_pair_listed rows s i j s k j (place (length rows) s i j) h (omega arith) hj (e (state_at A rows j)) (earlier-left (length rows) s i j k j l hj)

  -- a right row whose states with every left row are those of an earlier right row
  pub same_right_listed : (rows : List (Listed A)) (s j m : ℕ) → 1 ≤ s → m < j → j < length rows
      → ((q : A.State) → A.next s q (state_at A rows j) ≡ A.next s q (state_at A rows m))
      → (i : ℕ) → i < length rows → PairListed A rows s i j
  same_right_listed rows s j m h l hj e i hi =
      same_pair_listed rows s i j s i m (place (length rows) s i j) h hi (omega arith) (e (state_at A rows i)) (earlier-right (length rows) s i j m l)
