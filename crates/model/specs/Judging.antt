-- Judging the document that what is handed in begins with (change request W-205): the answer and the closing kind buffer.
use Rattle.std.specs.Prelude.{not, List, ℕ, eqb, length}
use Rattle.foundation.specs.Tests.{choose}
use Rattle.model.specs.Tables.{Contract}
use Rattle.model.specs.Answers.{Verdict, refuse_if, ◌then◌, Answer, judged, refusal, given}
use Rattle.model.specs.Admission.{admission}
use Rattle.model.specs.Documents.{numbers_taken, leading_tree, leading_verdict}
use Rattle.model.specs.Kinds.{kind_of, is_taken, breaks}

pub record Judged : Type 0 where
  pub answer : Answer
  pub words : List ℕ

module _ (C : Contract) where
  -- "0, not of the input type; 1, of it with no output outside the output type; 2, of it with such an output"; "judging gives 0 for any
  -- other tree" than one of one root
  unfoldable pub judgement : List ℕ → ℕ
  judgement kind = choose (is_taken C kind) (choose (breaks C kind) 2 1) 0

  -- "1 to 8; then 9, the kind buffer is not five words (place 0); 11, ..; 12, .."
  unfoldable pub judging_verdict : (numbers buffer : List ℕ) → Verdict
  judging_verdict numbers buffer = admission C then refuse_if (not (eqb (length buffer) 5)) 9 0 then leading_verdict C.transformation.symbols numbers

  -- "These write nothing. Otherwise the kind is written and the result is 0, .. 1, .. 2", with how many numbers the leading tree took
  unfoldable pub judging : (numbers buffer : List ℕ) → Judged
  judging numbers buffer =
      let S : ℕ = C.transformation.symbols in
      let kind : List ℕ = kind_of C (leading_tree S numbers) in
      given (judging_verdict numbers buffer) (λ number place. record { answer = refusal number place; words = buffer })
      (record { answer = judged (judgement kind) (numbers_taken S numbers); words = kind })
