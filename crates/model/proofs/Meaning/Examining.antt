-- The examiner's verdicts 70 to 73, each for its reason, and what no verdict says together: the list is acceptable.
use mathlib.Core.Path.{◌≡◌, refl, ap, subst, sym, ◌∙◌}
use mathlib.Core.Bool.{Bool, true, false, not, ◌||◌, true≢false, false≢true}
use mathlib.Core.Logic.{◌↔◌, ◌⊎◌, inl, inr}
use mathlib.Core.List.{List, [], ◌∷◌}
use Prim.Native.Nat.{ℕ, zero, suc, ◌*◌, ◌-◌, ◌%◌, ◌<◌, ◌≤◌}
use native.Mathlib.Omega.{arith}
use native.Mathlib.Decide.{dec_lt, ℕ_discrete}
use borrow.Author.Tests.{ltb-true, ltb-false, lt-ltb, le-ltb, eq-eqb, ne_eqb}
use lib.Dec.{T, eqb, ltb}
use lib.ListN.{length}
use Rattle.foundation.specs.Tests.{some_intro, some_elim}
use Rattle.foundation.specs.TestLaws.{or_first, or_second}
use Rattle.foundation.specs.Search.{first, first_at, first_none, first_before, first_hit, first_clear, first_cong}
use Rattle.foundation.specs.Lists.{same_list, same_list_eq, same_list_refl}
use Rattle.model.specs.Tables.{Contract}
use Rattle.model.specs.Answers.{fine, refused, refuse_first}
use Rattle.model.specs.Kinds.{empty_kind, next_kind, breaks}
use Rattle.model.specs.Refusals.{RefusesFor, with_number, only, lowest}
use Rattle.model.specs.Examining.{most_kinds, sent_count, five_words, masked, sent_kind, holds, symbol_at, left_at, right_at, not_held, sent_combinations, first_not_held, length_verdict, empty_verdict, closed_verdict, breaking_verdict, Held, HoldsOver, NotClosed}
use Rattle.model.proofs.Laws.Answers.{refuse_if_fine, refuse_if_passed, refuse_if_told, refuse_if_only, refuse_if_refused, refuse_first_fine, refuse_first_none}
use Rattle.model.proofs.Laws.Established.{Established}
use Rattle.model.proofs.Laws.Tests.{not_eqb}
use Rattle.model.proofs.Laws.Masked.{masked_empty, masked_next, next_masked, breaks_masked}
use Rattle.model.proofs.Rounds.Places.{place, place_symbol, place_left, place_right, place_below, at_place, left_below, right_below, symbol_below, before_place, place_before}
use Rattle.model.proofs.Meaning.Verdicts.{one_for, only_for, lowest_for}

-- a test that stands for a statement
told_yes : (b : Bool) {H : Type 0} → T b ↔ H → (not b ≡ false) ↔ H
told_yes true means = (λ e. means.0 tt, λ h. refl)
told_yes false means = (λ e. absurd (true≢false e), λ h. absurd (means.1 h))

told_no : (b : Bool) {H : Type 0} → T b ↔ H → (not b ≡ true) ↔ (H → ⊥)
told_no true means = (λ e. absurd (false≢true e), λ n. absurd (n (means.0 tt)))
told_no false means = (λ e h. means.1 h, λ n. refl)

-- something is listed where there are combinations
pub some_listed : (S n c : ℕ) → c < (S - 1) * (n * n) → 0 < n
some_listed S zero c h = absurd (omega arith)
some_listed S (suc n) c h = omega arith

module _ (C : Contract) (known : Established C) (words : List ℕ) where
  abbrev n : ℕ
  n = sent_count words

  abbrev S : ℕ
  S = C.transformation.symbols

  -- the computed test of a kind without other bits
  pub holds_held : (kind : List ℕ) → masked C kind ≡ kind → T (holds C words kind) ↔ Held C words kind
  unfolding holds
  holds_held kind clean = (
    λ t. let (k, h, e) = some_elim _ _ t in record { number = k; inside = omega (arith, h); same = same_list_eq _ _ e ∙ sym clean },
    λ h. some_intro _ _ h.number (omega (arith, h.inside)) (subst (λ (b : List ℕ). T (same_list (sent_kind C words h.number) b)) (h.same ∙ clean) (same_list_refl _)),
  )

  -- and of a symbol over two listed kinds
  pub holds_over : (s i j : ℕ) → T (holds C words (next_kind C s (sent_kind C words i) (sent_kind C words j))) ↔ HoldsOver C words s i j
  holds_over s i j =
      rw (next_masked C known s (five_words words i) (five_words words j)) (holds_held _ (masked_next C known s (five_words words i) (five_words words j)))

  over_yes : (s i j : ℕ) → (not (holds C words (next_kind C s (sent_kind C words i) (sent_kind C words j))) ≡ false) ↔ HoldsOver C words s i j
  over_yes s i j = told_yes (holds C words (next_kind C s (sent_kind C words i) (sent_kind C words j))) (holds_over s i j)

  over_no : (s i j : ℕ) → (not (holds C words (next_kind C s (sent_kind C words i) (sent_kind C words j))) ≡ true) ↔ (HoldsOver C words s i j → ⊥)
  over_no s i j = told_no (holds C words (next_kind C s (sent_kind C words i) (sent_kind C words j))) (holds_over s i j)

  -- 71: the empty kind stands anywhere in the list
  empty_told : Held C words (empty_kind C) → empty_verdict C words ≡ fine
  unfolding empty_verdict
  empty_told h = refuse_if_passed _ 71 0 ((told_yes (holds C words (empty_kind C)) (holds_held (empty_kind C) (masked_empty C known))).1 h)

  pub empty_good : empty_verdict C words ≡ fine ↔ Held C words (empty_kind C)
  unfolding empty_verdict
  empty_good = (
    λ e. (told_yes (holds C words (empty_kind C)) (holds_held (empty_kind C) (masked_empty C known))).0 (refuse_if_fine _ 71 0 e),
    empty_told,
  )

  pub empty_for : RefusesFor (only 71 (Held C words (empty_kind C) → ⊥) 0 ∷ []) (empty_verdict C words)
  unfolding empty_verdict
  empty_for = only_for _ _ 71 0 (told_no (holds C words (empty_kind C)) (holds_held (empty_kind C) (masked_empty C known)))

  -- 72: a kind that is not held, and all before it in listing order are: its place
  place_told : (p : ℕ) → NotClosed C words p → closed_verdict C words ≡ refused 72 p
  unfolding closed_verdict first_not_held
  place_told p w =
      refuse_if_refused _ 72 _ (lt-ltb (first (not_held C words) (sent_combinations C words)) (sent_combinations C words) (omega (arith, found, inside)))
      ∙ ap (refused 72) (rw found (rw (place_symbol n s i j hi hj one, place_left n s i j hi hj, place_right n s i j hi hj) (omega (arith, w.is_place))))
    where
      s : ℕ
      s = w.symbol

      i : ℕ
      i = w.left

      j : ℕ
      j = w.right

      one : 1 ≤ s
      one = w.is_symbol.0

      hi : i < n
      hi = w.is_left

      hj : j < n
      hj = w.is_right

      inside : place n s i j < sent_combinations C words
      inside = omega (arith, place_below n s i j hi hj S one w.is_symbol.1)

      here : not_held C words (place n s i j) ≡ true
      here =
          rw (place_symbol n s i j hi hj one, place_left n s i j hi hj, place_right n s i j hi hj)
          ((over_no s i j).1 w.missing)

      earlier : (c : ℕ) → c < place n s i j → not_held C words c ≡ false
      earlier c h =
          let some : 0 < n = omega arith in
          (over_yes (symbol_at C words c) (left_at C words c) (right_at C words c)).1
          (w.held_before (symbol_at C words c) (left_at C words c) (right_at C words c) (omega arith) (left_below n some c) (right_below n some c)
          (place_before n (symbol_at C words c) (left_at C words c) (right_at C words c) s i j (omega arith) (left_below n some c) (right_below n some c) one hi hj
          (rw (at_place n some c) h)))

      found : first (not_held C words) (sent_combinations C words) ≡ place n s i j
      found = first_at (not_held C words) (sent_combinations C words) (place n s i j) inside earlier here

  held_at : (s i j : ℕ) → 1 ≤ s → i < n → j < n → not_held C words (place n s i j) ≡ false → HoldsOver C words s i j
  held_at s i j one hi hj clear =
      (over_yes s i j).0 (rw (place_symbol n s i j hi hj one, place_left n s i j hi hj, place_right n s i j hi hj) at clear)

  -- and the verdict says of a place that it is just that
  place_of : (p : ℕ) → closed_verdict C words ≡ refused 72 p → NotClosed C words p
  unfolding closed_verdict first_not_held
  place_of p e =
      let (test, same) = refuse_if_told _ 72 _ 72 p e in
      let c : ℕ = first (not_held C words) (sent_combinations C words) in
      let found : c < sent_combinations C words = ltb-true c (sent_combinations C words) test in
      let some : 0 < n = some_listed S n c found in
      record {
        symbol = symbol_at C words c;
        left = left_at C words c;
        right = right_at C words c;
        is_symbol = (omega arith, symbol_below n some c S found);
        is_left = left_below n some c;
        is_right = right_below n some c;
        is_place = sym same;
        missing =
            (over_no (symbol_at C words c) (left_at C words c) (right_at C words c)).0
            (first_hit (not_held C words) (sent_combinations C words) found);
        held_before = λ s i j one hi hj b.
            held_at s i j one hi hj
            (first_before (not_held C words) (sent_combinations C words) (place n s i j)
            (omega (arith, before_place n s i j (symbol_at C words c) (left_at C words c) (right_at C words c) one hi hj b, at_place n some c)));
      }

  pub closed_for : RefusesFor (with_number 72 (NotClosed C words) ∷ []) (closed_verdict C words)
  unfolding closed_verdict
  closed_for = one_for _ 72 _ (refuse_if_only _ 72 _) (λ p. (place_of p, place_told p))

  -- every symbol over every two kinds
  abbrev Closed : Type 0
  Closed = (s i j : ℕ) → 1 ≤ s → s < S → i < n → j < n → HoldsOver C words s i j

  pub closed_good : closed_verdict C words ≡ fine ↔ Closed
  unfolding closed_verdict first_not_held
  closed_good = (
    λ e s i j one below hi hj.
        held_at s i j one hi hj
        (first_clear (not_held C words) (sent_combinations C words) (ltb-false _ _ (refuse_if_fine _ 72 _ e)) (place n s i j)
        (place_below n s i j hi hj S one below)),
    λ closed. refuse_if_passed _ 72 _ (le-ltb (first (not_held C words) (sent_combinations C words)) (sent_combinations C words) (omega (arith, none closed))),
  )
    where
      none : Closed → first (not_held C words) (sent_combinations C words) ≡ sent_combinations C words
      none closed =
          first_none (not_held C words) (sent_combinations C words)
          (λ c h.
          let some : 0 < n = some_listed S n c h in
          (over_yes (symbol_at C words c) (left_at C words c) (right_at C words c)).1
          (closed (symbol_at C words c) (left_at C words c) (right_at C words c) (omega arith) (symbol_below n some c S h) (left_below n some c) (right_below n some c)))

  pub breaking_good : breaking_verdict C words ≡ fine ↔ ((i : ℕ) → i < n → breaks C (five_words words i) ≡ false)
  unfolding breaking_verdict
  breaking_good = (
    λ e i h. sym (breaks_masked C known (five_words words i)) ∙ refuse_first_fine 73 _ n e i h,
    λ keeps.
        refuse_first_none 73 (λ k. breaks C (sent_kind C words k)) n _ refl
        (omega (arith, first_none (λ k. breaks C (sent_kind C words k)) n (λ i h. breaks_masked C known (five_words words i) ∙ keeps i h))),
  )

  -- 73: the lowest kind that breaks, other bits or not
  pub breaking_for : RefusesFor (lowest 73 (λ k. breaks C (five_words words k)) n ∷ []) (breaking_verdict C words)
  unfolding breaking_verdict refuse_first
  breaking_for =
      rw (first_cong (λ k. breaks C (sent_kind C words k)) (λ k. breaks C (five_words words k)) n (λ k h. breaks_masked C known (five_words words k)))
      (lowest_for 73 (λ k. breaks C (five_words words k)) n)

-- 70: "a length that is no multiple of five or above 20,480"
module _ (C : Contract) (words : List ℕ) where
  length_test : ((not (eqb (length words % 5) 0) || ltb (5 * most_kinds) (length words)) ≡ true) ↔ ((length words % 5 ≡ 0 → ⊥) ⊎ (20480 < length words))
  length_test = go (ℕ_discrete (length words % 5) 0) (dec_lt 20480 (length words))
    where
      go : Dec (length words % 5 ≡ 0) → Dec (20480 < length words)
          → ((not (eqb (length words % 5) 0) || ltb (5 * most_kinds) (length words)) ≡ true) ↔ ((length words % 5 ≡ 0 → ⊥) ⊎ (20480 < length words))
      go (no rest) d = rw (ne_eqb (length words % 5) 0 rest) (λ e. inl rest, λ w. refl)
      go (yes whole) (yes long) = rw (eq-eqb (length words % 5) 0 whole, lt-ltb (5 * most_kinds) (length words) (omega arith)) (λ e. inr long, λ w. refl)
      go (yes whole) (no short) =
          rw (eq-eqb (length words % 5) 0 whole, le-ltb (5 * most_kinds) (length words) (omega arith)) (λ e. absurd (false≢true e), λ w. absurd (wrong w))
        where
          wrong : (length words % 5 ≡ 0 → ⊥) ⊎ (20480 < length words) → ⊥
          wrong (inl rest) = rest whole
          wrong (inr long) = short long

  pub length_for : RefusesFor (only 70 ((length words % 5 ≡ 0 → ⊥) ⊎ (20480 < length words)) (length words) ∷ []) (length_verdict C words)
  unfolding length_verdict
  length_for = only_for _ _ 70 (length words) length_test

  pub length_good : length_verdict C words ≡ fine ↔ ((length words ≡ 5 * sent_count words) × (sent_count words ≤ most_kinds))
  unfolding length_verdict
  length_good = (
    λ e.
        let test = refuse_if_fine _ 70 (length words) e in
        let rest : length words % 5 ≡ 0 = not_eqb _ 0 (or_first _ (ltb (5 * most_kinds) (length words)) test) in
        let few : length words ≤ 5 * most_kinds = ltb-false _ _ (or_second (not (eqb (length words % 5) 0)) _ test) in
        (omega arith, omega arith),
    λ (whole, few).
        let rest : length words % 5 ≡ 0 = omega arith in
        refuse_if_passed _ 70 (length words) (rw (eq-eqb (length words % 5) 0 rest, le-ltb (5 * most_kinds) (length words) (omega arith)) refl),
  )
