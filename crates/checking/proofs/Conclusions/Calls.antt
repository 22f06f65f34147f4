-- What the answer and the closing buffers of one call say.
use mathlib.Core.Path.{◌≡◌, refl, ap, sym, ◌∙◌}
use mathlib.Core.List.{[]}
use mathlib.Core.Logic.{◌↔◌}
use Prim.Native.Nat.{ℕ, ◌*◌, ◌-◌}
use native.Mathlib.Omega.{arith}
use lib.ListN.{length, replicate}
use Rattle.foundation.specs.Lists.{zero_filled}
use Rattle.model.specs.Tables.{Contract}
use Rattle.model.specs.Answers.{Verdict, fine, refused, Answer, pass, tree, refusal, stopped}
use Rattle.model.specs.Checking.{Checked, row_numbers, kind_numbers, standing, limit_wrong, checking_verdict, checking}
use Rattle.model.specs.Meaning.{Lent, check_of, OneOfThree, is_pass, is_tree, is_stop, CheckMeans}
use Rattle.model.proofs.Laws.Answers.{then_fine_left, then_fine_right, refuse_first_fine, given_refused}
use Rattle.model.proofs.Meaning.Answers.{pass_not_refusal, tree_not_refusal, pass_not_stopped, tree_not_stopped, stopped_not_refusal}
use Rattle.model.proofs.Meaning.Checks.{check_meaning, larger_limit_stop}
use Rattle.checking.specs.Calls.{Call, returned, LetIn, NotRefused, CallMeans, CallLargerLimitStop}
use Rattle.checking.proofs.Sizes.{room_clear, row_clear}

-- a check that is stopped stands on nothing: both buffers are all 0
stopped_cleared : (C : Contract) (L : ℕ) (answer : Answer)
    → ((standing C L answer []).rows ≡ replicate (3 * L) 0) × ((standing C L answer []).words ≡ replicate (5 * L) 0)
unfolding standing zero_filled row_numbers kind_numbers
stopped_cleared C L answer = (none (3 * L), none (5 * L))
  where
    none : (n : ℕ) → replicate {A = ℕ} (n - 0) 0 ≡ replicate n 0
    none n = let e : n - 0 ≡ n = omega arith in ap (λ (k : ℕ). replicate {A = ℕ} k 0) e

module _ {C : Contract} {L : ℕ} (call : Call C L) where
  pub returned_is : returned call ≡ checking C L call.rows call.words
  returned_is = rw (call.gives.answered, call.gives.rows_closed, call.gives.words_closed)

  -- an answer that came back is the definition's
  pub told : {answer : Answer} → call.answer ≡ answer → (checking C L call.rows call.words).answer ≡ answer
  told e = sym call.gives.answered ∙ e

  -- the limit and buffers of a call that is let in
  abbrev pub lent : LetIn call → Lent
  lent good = record { limit = L; row_buffer = call.rows; word_buffer = call.words; fits = good.sizes }

  means : (good : LetIn call) → CheckMeans C (lent good)
  means good = check_meaning C good.is_admitted (lent good)

  let-in : checking_verdict C L call.rows call.words ≡ fine → LetIn call
  unfolding checking_verdict
  let-in e =
      let clear = refuse_first_fine 9 (limit_wrong C L (length call.rows) (length call.words)) 3 (then_fine_right _ _ e) in
      let room = room_clear C L call.rows call.words clear in
      record {
        is_admitted = then_fine_left _ _ e;
        sizes =
            record {
              at_least = row_clear C L call.rows call.words clear;
              at_most = room.few;
              rows = room.row_room;
              words = room.word_room;
            };
      }

  -- a call is let in, or turned away by a refusal with its buffers as they were
  data Treated : Type 0 where
    is_let_in : LetIn call → Treated
    is_turned_away : (number place : ℕ) → call.answer ≡ refusal number place → call.closing_rows ≡ call.rows → call.closing_words ≡ call.words → Treated

  turned_away : (number place : ℕ) → checking_verdict C L call.rows call.words ≡ refused number place
      → checking C L call.rows call.words ≡ record { answer = refusal number place; rows = call.rows; words = call.words }
  unfolding checking
  turned_away number place e = given_refused _ _ _ number place e

  treated : Treated
  treated = go (checking_verdict C L call.rows call.words) refl
    where
      go : (v : Verdict) → checking_verdict C L call.rows call.words ≡ v → Treated
      go fine e = is_let_in (let-in e)
      go (refused number place) e =
          let away = turned_away number place e in
          is_turned_away number place (call.gives.answered ∙ ap (λ (c : Checked). c.answer) away)
          (call.gives.rows_closed ∙ ap (λ (c : Checked). c.rows) away)
          (call.gives.words_closed ∙ ap (λ (c : Checked). c.words) away)

  not_refused_let_in : NotRefused call → LetIn call
  not_refused_let_in never = go treated
    where
      go : Treated → LetIn call
      go (is_let_in good) = good
      go (is_turned_away number place q r w) = absurd (never number place q)

  -- a pass, a tree and a stop are given by a call that is let in alone
  pub pass_let_in : (n : ℕ) → call.answer ≡ pass n → LetIn call
  pass_let_in n e = not_refused_let_in (λ number place q. pass_not_refusal e q)

  pub tree_let_in : (j : ℕ) → call.answer ≡ tree j → LetIn call
  tree_let_in j e = not_refused_let_in (λ number place q. tree_not_refusal e q)

  stop_let_in : (limit h : ℕ) → call.answer ≡ stopped limit h → LetIn call
  stop_let_in limit h e = not_refused_let_in (λ number place q. stopped_not_refusal e q)

  one_of : (good : LetIn call) → OneOfThree L call.answer
  one_of good = rw call.gives.answered (means good).one_of_three

  -- a call that is let in is not refused, and stops at its own limit
  let_in_not_refused : LetIn call → NotRefused call
  let_in_not_refused good number place e = go (one_of good)
    where
      go : OneOfThree L call.answer → ⊥
      go (is_pass n q) = pass_not_refusal q e
      go (is_tree j q) = tree_not_refusal q e
      go (is_stop h q) = stopped_not_refusal q e

  own_limit : (limit h : ℕ) → call.answer ≡ stopped limit h → limit ≡ L
  own_limit limit h e = go (one_of (stop_let_in limit h e))
    where
      go : OneOfThree L call.answer → limit ≡ L
      go (is_pass n q) = absurd (pass_not_stopped q e)
      go (is_tree j q) = absurd (tree_not_stopped q e)
      go (is_stop k q) = cc

  stopped_at : (limit h : ℕ) → call.answer ≡ stopped limit h → call.answer ≡ stopped L h
  stopped_at limit h e = e ∙ ap (λ (l : ℕ). stopped l h) (own_limit limit h e)

  refused-keeps : (number place : ℕ) → call.answer ≡ refusal number place
      → (call.closing_rows ≡ call.rows) × (call.closing_words ≡ call.words)
  refused-keeps number place e = go treated
    where
      go : Treated → (call.closing_rows ≡ call.rows) × (call.closing_words ≡ call.words)
      go (is_let_in good) = absurd (let_in_not_refused good number place e)
      go (is_turned_away number' place' q r w) = (r, w)

  -- an answer and what it means, of a call that is let in
  exactly : {A : Type 0} (answer : Answer) → (call.answer ≡ answer → LetIn call)
      → ((good : LetIn call) → ((check_of C (lent good)).answer ≡ answer) ↔ A)
      → (call.answer ≡ answer) ↔ (LetIn call × A)
  exactly answer must means-it =
      (λ e. (must e, (means-it (must e)).0 (told e)), λ m. call.gives.answered ∙ (means-it m.0).1 m.1)

  pub call_meaning : CallMeans call
  call_meaning =
      record {
        let_in_exactly = (not_refused_let_in, let_in_not_refused);
        one_of_three = one_of;
        refused_keeps = refused-keeps;
        pass_exactly = λ n. exactly (pass n) (pass_let_in n) (λ good. (means good).pass_exactly n);
        tree_exactly = λ j. exactly (tree j) (tree_let_in j) (λ good. (means good).tree_exactly j);
        tree_least = λ j e. rw call.gives.rows_closed ((means (tree_let_in j e)).tree_least j (told e));
        stop_exactly = λ limit h. (
          λ e. let good = stop_let_in limit h e in (good, own_limit limit h e, ((means good).stop_exactly h).0 (told (stopped_at limit h e))),
          λ m. call.gives.answered ∙ ((means m.0).stop_exactly h).1 m.2 ∙ ap (λ (l : ℕ). stopped l h) (sym m.1),
        );
        stop_tells = λ limit h e. (means (stop_let_in limit h e)).stop_tells h (told (stopped_at limit h e));
        pass_rows = λ n e. returned_is ∙ (means (pass_let_in n e)).pass_rows n (told e);
        tree_rows = λ j e. returned_is ∙ (means (tree_let_in j e)).tree_rows j (told e);
        stop_cleared = λ limit h e.
            let cleared : returned call ≡ standing C L (stopped L h) [] = returned_is ∙ (means (stop_let_in limit h e)).stop_rows h (told (stopped_at limit h e)) in
            (ap (λ (c : Checked). c.rows) cleared ∙ (stopped_cleared C L (stopped L h)).0, ap (λ (c : Checked). c.words) cleared ∙ (stopped_cleared C L (stopped L h)).1);
      }

-- "a larger limit, if it stops too, never gives a smaller h"
pub larger_limit_stop_of_calls : {C : Contract} {L M : ℕ} (first : Call C L) (second : Call C M) → CallLargerLimitStop first second
larger_limit_stop_of_calls {C} first second limit larger h k e q less =
    let good = stop_let_in first limit h e in
    let also = stop_let_in second larger k q in
    larger_limit_stop C good.is_admitted (lent first good) (lent second also) (omega (arith, own_limit first limit h e, own_limit second larger k q)) h k
    (told first (stopped_at first limit h e))
    (told second (stopped_at second larger k q))
