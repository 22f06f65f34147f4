-- Calls of `check` beside an examined list of kinds (change request W-211): proofs/Conclusions/Examined proves it (`examined_call`).
use Rattle.std.specs.Prelude.{◌≡◌, List, ℕ, ◌*◌, take}
use Rattle.model.specs.Tables.{Contract}
use Rattle.model.specs.Answers.{fine, pass, tree}
use Rattle.model.specs.Examining.{examining}
use Rattle.checking.specs.Calls.{Call}

pub record CallExamined {C : Contract} {L : ℕ} (call : Call C L) : Type 0 where
  -- "our own passes' counted kinds are accepted": they stand in the words that came back
  pub pass_accepted : (n : ℕ) → call.answer ≡ pass n → examining C (take (5 * n) call.closing_words) ≡ fine
  -- "Acceptance means no document breaks the contract": an accepted list and a shown document exclude each other
  pub accepted_excludes : (words : List ℕ) → examining C words ≡ fine → (j : ℕ) → call.answer ≡ tree j → ⊥
