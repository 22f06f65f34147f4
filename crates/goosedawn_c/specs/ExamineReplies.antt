-- What a caller in C or Rust may conclude from the reply of examining a list of kinds, and from it beside replies of checks (`call_of`).
use Rattle.std.specs.Prelude.{◌≡◌, List, ℕ, ◌*◌, take}
use Rattle.std.proofs.Common.{ap, subst, sym, ◌∙◌}
use Rattle.model.specs.Tables.{Contract}
use Rattle.model.specs.Answers.{Verdict, fine, refused, pass, tree}
use Rattle.model.specs.Examining.{examining, ExaminingMeans}
use Rattle.model.proofs.Meaning.ExaminingAnswers.{examining_number, examining_means}
use Rattle.answers.specs.declared.numbered.Refusal.{Refusal}
use Rattle.examining.specs.Numbers.{refusal_for}
use Rattle.checking.specs.Calls.{Call}
use Rattle.checking.proofs.Conclusions.Examined.{examined_call}
use Rattle.goosedawn_c.specs.declared.refusal.Told.{Told}
use Rattle.goosedawn_c.specs.Refusals.{told, told_of, verdict_of_told, verdict_told}

-- a refusal's number and place are what is told of the verdict
pub told_refusal : (v : Verdict) (refusal : Refusal) → refusal ≡ refusal_for v → told refusal.number refusal.place ≡ told_of v
told_refusal fine refusal e = rw e
told_refusal (refused number place) refusal e = rw e

module _ (C : Contract) (words : List ℕ) (r : Told) (promise : r ≡ told_of (examining C words)) where
  verdict_is : verdict_of_told r ≡ examining C words
  verdict_is = ap verdict_of_told promise ∙ verdict_told _ (examining_number C words)

  -- by what `goosedawn_examine` promises
  pub examine_call : ExaminingMeans C words (verdict_of_told r)
  examine_call = subst (ExaminingMeans C words) (sym verdict_is) (examining_means C words)

  -- the number 0 is acceptance, and then no check shows a document
  pub examine_excludes : r.number ≡ 0 → {L : ℕ} (call : Call C L) (j : ℕ) → call.answer ≡ tree j → ⊥
  examine_excludes zero call = (examined_call call).accepted_excludes words (sym verdict_is ∙ rw zero)

-- the counted kinds that a pass left in the word buffer are accepted
pub examine_own : {C : Contract} {L : ℕ} (call : Call C L) (n : ℕ) → call.answer ≡ pass n
    → (r : Told) → r ≡ told_of (examining C (take (5 * n) call.closing_words)) → r ≡ told 0 0
examine_own call n e r promise = promise ∙ ap told_of ((examined_call call).pass_accepted n e)
