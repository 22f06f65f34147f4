-- What writing out says: the numbers follow where some were written, and nothing follows a refusal.
use mathlib.Core.Path.{◌≡◌, refl, sym, subst}
use mathlib.Core.List.{List, ◌∷◌, ◌++◌}
use Prim.Native.Nat.{ℕ}
use lib.ListN.{take}
use Rattle.model.specs.Answers.{Answer, written, refusal}
use Rattle.model.specs.WritingOut.{Written}
use Rattle.script.specs.Meaning.{spaced, answer_text, written_text}

abbrev pub writes : Answer → List ℕ → Written
writes answer numbers = record { answer = answer; numbers = numbers }

module _ (answer : Answer) (numbers : List ℕ) where
  pub text_refused : {number place : ℕ} → answer ≡ refusal number place → written_text (writes answer numbers) ≡ answer_text answer
  text_refused e = subst (λ (a : Answer). written_text (writes a numbers) ≡ answer_text a) (sym e) refl

  pub text_written : (count : ℕ) → answer ≡ written count → written_text (writes answer numbers) ≡ answer_text answer ++ (58 ∷ spaced (take count numbers))
  text_written count e = subst (λ (a : Answer). written_text (writes a numbers) ≡ answer_text a ++ (58 ∷ spaced (take count numbers))) (sym e) refl
