-- A check by its rounds, and that code may stop as soon as it knows, in the middle of a round too.
use mathlib.Core.Path.{◌≡◌, refl, ap, ◌∙◌}
use mathlib.Core.List.{List, [], ◌∷◌, ◌++◌}
use mathlib.Core.Logic.{◌⊎◌, inl, inr}
use mathlib.Core.Bool.{true, false}
use Prim.Native.Nat.{ℕ, zero, suc, ◌*◌, ◌<◌, ◌≤◌, min}
use native.Mathlib.Omega.{arith}
use native.Mathlib.Decide.{dec_lt}
use borrow.Author.Tests.{lt-ltb, le-ltb, eq-eqb}
use lib.ListN.{length, take}
use lib.Seq.{get_or-append_seam}
use Rattle.foundation.specs.Search.{first, first_at, first_none, first_before, first_hit}
use Rattle.model.specs.Tables.{Contract}
use Rattle.model.specs.Answers.{fine, ◌then◌, refuse_first, refuse_if, given, tree, pass, stopped}
use Rattle.model.specs.Admission.{admission}
use Rattle.model.specs.Kinds.{breaks}
use Rattle.model.specs.Rounds.{kind_automaton, empty_row, ListedKind, kind_at}
use Rattle.model.specs.Checking.{greatest_limit, Checked, stop_height, standing, first_breaking, answered, check, limit_wrong, checking_verdict, checking}
use Rattle.model.specs.Meaning.{kind_rounds, NoneBreaks, LastHeld, Fits}
use Rattle.model.proofs.Rounds.Growth.{Begins, begins_state, Beginning, agree_state, agree_take, rounds_beginning}
use Rattle.model.proofs.Rounds.Listing.{Ended, ended_or_longer, rounds_enough, ended_longest, ended_same, listing_rounds}
use Rattle.model.proofs.Rounds.Heights.{stop_height_at}

module _ (C : Contract) where
  -- in a longer list, and after a row that does not break was added
  pub none_longer : (n : ℕ) {a b : List (ListedKind C)} → Begins (kind_automaton C) a b → n ≤ length a → NoneBreaks C n a → NoneBreaks C n b
  none_longer n g l none =
      record {
        keeps = λ i below r. ap (λ (kind : List ℕ). breaks C kind) (begins_state g i (omega arith)) ∙ none.keeps i below (omega arith);
      }

  pub none_snoc : (rows : List (ListedKind C)) (row : ListedKind C) → breaks C row.state ≡ false → NoneBreaks C (length rows) rows
      → NoneBreaks C (suc (length rows)) (rows ++ (row ∷ []))
  none_snoc rows row e none = record { keeps = λ i below r. go i below (dec_lt i (length rows)) }
    where
      grown : Begins (kind_automaton C) rows (rows ++ (row ∷ []))
      grown = record { more = row ∷ []; appended = refl }

      go : (i : ℕ) → i < suc (length rows) → Dec (i < length rows) → breaks C (kind_at C (rows ++ (row ∷ [])) i) ≡ false
      go i below (yes l) = ap (λ (kind : List ℕ). breaks C kind) (begins_state grown i l) ∙ none.keeps i l l
      go i below (no nl) =
          let q : i ≡ length rows = omega arith in
          rw q (ap (λ (x : ListedKind C). breaks C x.state) (get_or-append_seam rows row [] (empty_row (kind_automaton C))) ∙ e)

  pub check_answered : (L : ℕ) → check C L ≡ answered C L (kind_rounds C L)
  unfolding check
  check_answered L = ap (λ (rows : List (ListedKind C)). answered C L rows) (listing_rounds (kind_automaton C) L)

  -- the three ends of a list
  answered_tree : (L : ℕ) (rows : List (ListedKind C)) (j : ℕ) → j < L → j < length rows → breaks C (kind_at C rows j) ≡ true → NoneBreaks C j rows
      → answered C L rows ≡ standing C L (tree j) (take (suc j) rows)
  unfolding answered first_breaking
  answered_tree L rows j j_l jr b none =
      let jn : j < min L (length rows) = omega arith in
      let found : first (λ i. breaks C (kind_at C rows i)) (min L (length rows)) ≡ j =
      first_at (λ i. breaks C (kind_at C rows i)) (min L (length rows)) j jn (λ i l. none.keeps i l (omega arith)) b in
      rw (found, lt-ltb j (min L (length rows)) jn)

  answered_none : (L : ℕ) (rows : List (ListedKind C)) → NoneBreaks C L rows → first (λ i. breaks C (kind_at C rows i)) (min L (length rows)) ≡ min L (length rows)
  answered_none L rows none = first_none (λ i. breaks C (kind_at C rows i)) (min L (length rows)) (λ i l. none.keeps i (omega arith) (omega arith))

  answered_stop : (L : ℕ) (rows : List (ListedKind C)) → L < length rows → NoneBreaks C L rows
      → answered C L rows ≡ standing C L (stopped L (stop_height C L)) []
  unfolding answered first_breaking
  answered_stop L rows l none =
      rw (answered_none L rows none, le-ltb (min L (length rows)) (min L (length rows)) (omega arith), lt-ltb L (length rows) l)

  answered_pass : (L : ℕ) (rows : List (ListedKind C)) → length rows ≤ L → NoneBreaks C L rows → answered C L rows ≡ standing C L (pass (length rows)) rows
  unfolding answered first_breaking
  answered_pass L rows l none =
      rw (answered_none L rows none, le-ltb (min L (length rows)) (min L (length rows)) (omega arith), le-ltb L (length rows) l)

  -- how a check ends
  pub data Ending (L : ℕ) (c : Checked) : Type 0 where
    shows : (j : ℕ) → j < L → j < length (kind_rounds C L) → breaks C (kind_at C (kind_rounds C L) j) ≡ true → NoneBreaks C j (kind_rounds C L)
        → c ≡ standing C L (tree j) (take (suc j) (kind_rounds C L))
        → Ending L c
    passes : Ended (kind_automaton C) L → length (kind_rounds C L) ≤ L → NoneBreaks C L (kind_rounds C L)
        → c ≡ standing C L (pass (length (kind_rounds C L))) (kind_rounds C L)
        → Ending L c
    stops : L < length (kind_rounds C L) → NoneBreaks C L (kind_rounds C L) → c ≡ standing C L (stopped L (stop_height C L)) [] → Ending L c

  pub check_ends : (L : ℕ) → Ending L (check C L)
  check_ends L =
      go (first (λ i. breaks C (kind_at C (kind_rounds C L) i)) (min L (length (kind_rounds C L)))) refl (dec_lt _ (min L (length (kind_rounds C L))))
      (ended_or_longer (kind_automaton C) L)
    where
      none_before : (j : ℕ) → first (λ i. breaks C (kind_at C (kind_rounds C L) i)) (min L (length (kind_rounds C L))) ≡ j → NoneBreaks C j (kind_rounds C L)
      none_before j e =
          record { keeps = λ i l r. first_before (λ k. breaks C (kind_at C (kind_rounds C L) k)) (min L (length (kind_rounds C L))) i (omega arith) }

      rest : NoneBreaks C L (kind_rounds C L) → Ended (kind_automaton C) L ⊎ (L < length (kind_rounds C L)) → Dec (L < length (kind_rounds C L)) → Ending L (check C L)
      rest none f (yes l) = stops l none (check_answered L ∙ answered_stop L (kind_rounds C L) l none)
      rest none (inl e) (no l) = passes e (omega arith) none (check_answered L ∙ answered_pass L (kind_rounds C L) (omega arith) none)
      rest none (inr k) (no l) = absurd (omega arith)

      go : (j : ℕ) → first (λ i. breaks C (kind_at C (kind_rounds C L) i)) (min L (length (kind_rounds C L))) ≡ j → Dec (j < min L (length (kind_rounds C L)))
          → Ended (kind_automaton C) L ⊎ (L < length (kind_rounds C L))
          → Ending L (check C L)
      go j e (yes l) f =
          let hit : breaks C (kind_at C (kind_rounds C L) j) ≡ true =
          rw e at (first_hit (λ i. breaks C (kind_at C (kind_rounds C L) i)) (min L (length (kind_rounds C L))) (omega arith)) in
          shows j (omega arith) (omega arith) hit (none_before j e)
          (check_answered L ∙ answered_tree L (kind_rounds C L) j (omega arith) (omega arith) hit (none_before j e))
      go j e (no l) f =
          let none : NoneBreaks C L (kind_rounds C L) = record { keeps = λ i below r. (none_before j e).keeps i (omega arith) r } in
          rest none f (dec_lt L (length (kind_rounds C L)))

  -- what holds of one beginning holds of another, as far as both go
  same_breaks : (a b : List (ListedKind C)) → Beginning (kind_automaton C) a → Beginning (kind_automaton C) b → (i : ℕ) → i < length a → i < length b
      → breaks C (kind_at C a i) ≡ breaks C (kind_at C b i)
  same_breaks a b start-a start-b i ha hb = ap (λ (kind : List ℕ). breaks C kind) (agree_state (kind_automaton C) a b start-a start-b i ha hb)

  none_of_rounds : (L n : ℕ) (rows : List (ListedKind C)) → Beginning (kind_automaton C) rows → n ≤ length rows → NoneBreaks C n rows → NoneBreaks C n (kind_rounds C L)
  none_of_rounds L n rows start l none =
      record {
        keeps = λ i below r.
            same_breaks (kind_rounds C L) rows (rounds_beginning (kind_automaton C) L) start i r (omega arith) ∙ none.keeps i below (omega arith);
      }

  -- the first breaking row is known as soon as it is listed
  pub check_tree : (L : ℕ) (rows : List (ListedKind C)) → Beginning (kind_automaton C) rows → (j : ℕ) → j < L → j < length rows
      → breaks C (kind_at C rows j) ≡ true
      → NoneBreaks C j rows
      → check C L ≡ standing C L (tree j) (take (suc j) rows)
  check_tree L rows start j j_l jr b none = go (rounds_enough (kind_automaton C) L start)
    where
      by_rounds : j < length (kind_rounds C L) → check C L ≡ standing C L (tree j) (take (suc j) rows)
      by_rounds l =
          check_answered L
          ∙ answered_tree L (kind_rounds C L) j j_l l (same_breaks (kind_rounds C L) rows (rounds_beginning (kind_automaton C) L) start j l jr ∙ b)
          (none_of_rounds L j rows start (omega arith) none)
          ∙ ap (λ (some : List (ListedKind C)). standing C L (tree j) some)
          (agree_take (kind_automaton C) (kind_rounds C L) rows (rounds_beginning (kind_automaton C) L) start (suc j) l jr)

      go : (L < length (kind_rounds C L)) ⊎ (length rows ≤ length (kind_rounds C L)) → check C L ≡ standing C L (tree j) (take (suc j) rows)
      go (inl l) = by_rounds (omega arith)
      go (inr l) = by_rounds (omega arith)

  -- the limit holds the list of round h and not that of the next, of which none of the first L rows breaks
  pub check_stop : (L h : ℕ) → LastHeld C L h → NoneBreaks C L (kind_rounds C (suc h)) → check C L ≡ standing C L (stopped L h) []
  check_stop L h last none = go (rounds_enough (kind_automaton C) L start)
    where
      start : Beginning (kind_automaton C) (kind_rounds C (suc h))
      start = rounds_beginning (kind_automaton C) (suc h)

      by_rounds : L < length (kind_rounds C L) → check C L ≡ standing C L (stopped L h) []
      by_rounds k =
          check_answered L
          ∙ answered_stop L (kind_rounds C L) k (none_of_rounds L L (kind_rounds C (suc h)) start (omega (arith, last.left_out)) none)
          ∙ ap (λ (height : ℕ). standing C L (stopped L height) []) (stop_height_at C L h last)

      go : (L < length (kind_rounds C L)) ⊎ (length (kind_rounds C (suc h)) ≤ length (kind_rounds C L)) → check C L ≡ standing C L (stopped L h) []
      go (inl k) = by_rounds k
      go (inr k) = by_rounds (omega (arith, last.left_out))

  -- a round that adds nothing to at most L rows, of which none breaks
  pub check_pass : (L h : ℕ) → Ended (kind_automaton C) h → length (kind_rounds C h) ≤ L → NoneBreaks C (length (kind_rounds C h)) (kind_rounds C h)
      → check C L ≡ standing C L (pass (length (kind_rounds C h))) (kind_rounds C h)
  check_pass L h end l none = go (ended_or_longer (kind_automaton C) L)
    where
      go : Ended (kind_automaton C) L ⊎ (L < length (kind_rounds C L)) → check C L ≡ standing C L (pass (length (kind_rounds C h))) (kind_rounds C h)
      go (inl e) =
          check_answered L
          ∙ ap (λ (rows : List (ListedKind C)). answered C L rows) (ended_same (kind_automaton C) L h e end)
          ∙ answered_pass L (kind_rounds C h) l (record { keeps = λ i below r. none.keeps i r r })
      go (inr k) = let longest = ended_longest (kind_automaton C) h end (rounds_beginning (kind_automaton C) L) in absurd (omega arith)

  limit_right : (L rows words : ℕ) → 1 ≤ L → L ≤ greatest_limit → rows ≡ 3 * L → words ≡ 5 * L → (place : ℕ) → place < 3 → limit_wrong C L rows words place ≡ false
  limit_right L rows words l m r w zero h = rw (le-ltb L 1 l, le-ltb 512 L m)
  limit_right L rows words l m r w (suc zero) h = rw (eq-eqb rows (3 * L) r)
  limit_right L rows words l m r w (suc (suc zero)) h = rw (eq-eqb words (5 * L) w)
  limit_right L rows words l m r w (suc (suc (suc place))) h = absurd (omega arith)

  -- checking an admitted contract is its check
  pub checking_check : (L : ℕ) (row_buffer word_buffer : List ℕ) → admission C ≡ fine → Fits L row_buffer word_buffer → checking C L row_buffer word_buffer ≡ check C L
  unfolding checking checking_verdict ◌then◌ refuse_first refuse_if given
  checking_check L row_buffer word_buffer good fits =
      let none : first (limit_wrong C L (length row_buffer) (length word_buffer)) 3 ≡ 3 =
      first_none (limit_wrong C L (length row_buffer) (length word_buffer)) 3
      (limit_right L (length row_buffer) (length word_buffer) fits.at_least fits.at_most fits.rows fits.words) in
      rw (good, none)
