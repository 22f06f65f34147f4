-- Laws of comparing two examples: what is refused, what is handed back, and that it lies in its buffer.
use mathlib.Core.Path.{◌≡◌, refl, sym, subst, ◌∙◌}
use mathlib.Core.Bool.{true, false}
use mathlib.Core.List.{List}
use mathlib.Core.Logic.{◌↔◌}
use Prim.Native.Nat.{ℕ, ◌≤◌, ◌<◌, zero-le}
use native.Mathlib.Decide.{dec_lt}
use native.Mathlib.Omega.{arith}
use borrow.Author.Tests.{lt-ltb, le-ltb}
use lib.ListN.{length}
use Rattle.model.specs.Answers.{Verdict, fine, refused, given}
use Rattle.model.specs.Admission.{outside}
use Rattle.model.specs.Documents.{numbers_taken, leading_verdict}
use Rattle.model.specs.Shorter.{Stretch, in_first, in_second, of_second, shorter_verdict, fewer, empty_stretch, shorter}
use Rattle.model.proofs.Laws.Answers.{refused_not_fine, then_fine, then_passed, then_refused, refuse_if_fine, refuse_if_passed, refuse_if_refused}
use Rattle.model.proofs.Laws.Documents.{leading_fine}

-- what is refused of the second buffer
pub second_endless : (place : ℕ) → of_second (refused 11 place) ≡ refused 54 place
unfolding of_second
second_endless place = refl

pub second_faulty : (place : ℕ) → of_second (refused 12 place) ≡ refused 55 place
unfolding of_second
second_faulty place = refl

-- nothing is refused of the second buffer exactly if nothing is wrong with it
pub second-fine : (v : Verdict) → (of_second v ≡ fine) ↔ (v ≡ fine)
unfolding of_second
second-fine fine = (λ e. refl, λ e. refl)
second-fine (refused number place) = (λ e. absurd (refused_not_fine _ place e), λ e. absurd (refused_not_fine number place e))

-- which tree has fewer numbers; on a tie, the first buffer's
fewer_first : (n m : ℕ) → n ≤ m → fewer n m ≡ in_first n
unfolding fewer
fewer_first n m few = rw le-ltb

fewer_second : (n m : ℕ) → m < n → fewer n m ≡ in_second m
unfolding fewer
fewer_second n m few = rw lt-ltb

pub fewer_has : (P : Stretch → Type 0) (n m : ℕ) → (n ≤ m → P (in_first n)) → (m < n → P (in_second m)) → P (fewer n m)
fewer_has P n m of-first of-second = go (dec_lt m n)
  where
    go : Dec (m < n) → P (fewer n m)
    go (yes few) = subst P (sym (fewer_second n m few)) (of-second few)
    go (no more) = let few : n ≤ m = omega arith in subst P (sym (fewer_first n m few)) (of-first few)

module _ (S : ℕ) (xs ys : List ℕ) where
  -- what is refused, in the order of the tests
  pub symbols_refused : outside 1 16 S ≡ true → shorter_verdict S xs ys ≡ refused 1 0
  unfolding shorter_verdict
  symbols_refused e = then_refused _ _ 1 0 (refuse_if_refused _ 1 0 e)

  module _ (some : outside 1 16 S ≡ false) where
    pub first_refused : (number place : ℕ) → leading_verdict S xs ≡ refused number place → shorter_verdict S xs ys ≡ refused number place
    unfolding shorter_verdict
    first_refused number place e = then_passed _ _ (refuse_if_passed _ 1 0 some) ∙ then_refused _ _ number place e

    pub second_verdict : leading_verdict S xs ≡ fine → shorter_verdict S xs ys ≡ of_second (leading_verdict S ys)
    unfolding shorter_verdict
    second_verdict e = then_passed _ _ (refuse_if_passed _ 1 0 some) ∙ then_passed _ _ e

  -- where nothing is refused, nothing is wrong with the symbols and with either buffer
  pub record Compared : Type 0 where
    pub symbols : outside 1 16 S ≡ false
    pub first_fine : leading_verdict S xs ≡ fine
    pub second_fine : leading_verdict S ys ≡ fine

  pub nothing_refused : shorter_verdict S xs ys ≡ fine → Compared
  unfolding shorter_verdict
  nothing_refused e =
      let (some, rest) = then_fine _ _ e in
      let (one, two) = then_fine _ _ rest in
      record { symbols = refuse_if_fine _ 1 0 some; first_fine = one; second_fine = (second-fine _).0 two }

  -- what is handed back
  pub shorter_refused : (number place : ℕ) → shorter_verdict S xs ys ≡ refused number place → shorter S xs ys ≡ empty_stretch
  unfolding shorter given
  shorter_refused number place e = rw e

  pub shorter_fine : shorter_verdict S xs ys ≡ fine → shorter S xs ys ≡ fewer (numbers_taken S xs) (numbers_taken S ys)
  unfolding shorter given
  shorter_fine e = rw e

  -- it has no more numbers than either buffer
  pub record Fits (s : Stretch) : Type 0 where
    pub in_first_buffer : s.count ≤ length xs
    pub in_second_buffer : s.count ≤ length ys

  pub shorter_fits : Fits (shorter S xs ys)
  shorter_fits = go (shorter_verdict S xs ys) refl
    where
      go : (v : Verdict) → shorter_verdict S xs ys ≡ v → Fits (shorter S xs ys)
      go (refused number place) e = subst Fits (sym (shorter_refused number place e)) (record { in_first_buffer = zero-le; in_second_buffer = zero-le })
      go fine e =
          let c = nothing_refused e in
          let one = (leading_fine S xs c.first_fine).within in
          let two = (leading_fine S ys c.second_fine).within in
          subst Fits (sym (shorter_fine e))
          (fewer_has Fits _ _ (λ few. record { in_first_buffer = one; in_second_buffer = omega (arith, two, few) })
          (λ few. record { in_first_buffer = omega (arith, one, few); in_second_buffer = two }))
