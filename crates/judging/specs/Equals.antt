-- Judging by a contract D that is the contract handed in: what `Steps` says of that contract itself.
use Rattle.std.specs.Prelude.{◌≡◌, List, length, take}
use Rattle.std.proofs.Common.{subst, sym}
use Prim.Native.Nat.{ℕ}
use borrow.Author.Tests.{eq-eqb}
use Rattle.model.specs.Tables.{Contract}
use Rattle.model.specs.Documents.{document_tree, numbers_taken, leading_tree}
use Rattle.model.specs.Answers.{refuse_if, ◌then◌, Answer, given}
use Rattle.model.specs.Judging.{judging_verdict, judging}
use Rattle.model.proofs.Laws.Documents.{Document}
use Rattle.reading.specs.Taken.{TakesDocument, all_taken}
use Rattle.judging.specs.Steps.{Comes, LetIn, judged_tree}

-- the numbers taken are a document of D too, where D is this contract
pub document_in : {C : Contract} {taken : ℕ} {numbers : List ℕ} → TakesDocument C.transformation.symbols taken numbers → (D : Contract) → D ≡ C
    → Document D.transformation.symbols (take taken numbers)
document_in {taken = taken} {numbers = numbers} d D e =
    subst (λ (D : Contract). Document D.transformation.symbols (take taken numbers)) (sym e) d.leads.document

module _ (C : Contract) (numbers buffer : List ℕ) where
  -- where nothing is refused: the judgement of the numbers taken, by D, which is this contract
  pub judged_document : {taken : ℕ} → LetIn C taken numbers buffer → {answer : Answer} {words : List ℕ} (D : Contract) → D ≡ C
      → Comes answer words (judged_tree D (document_tree (take taken numbers)) (length (take taken numbers)))
      → Comes answer words (judging C numbers buffer)
  unfolding judging judging_verdict leading_tree given ◌then◌ refuse_if
  judged_document {taken} l D same comes =
      let S : ℕ = C.transformation.symbols in
      let q : judging C numbers buffer ≡ judged_tree C (document_tree (take (numbers_taken S numbers) numbers)) (numbers_taken S numbers) =
      rw (l.passed, eq-eqb (length buffer) 5 l.five, l.read.passes) in
      rw (q, ← l.read.same) (rw (same, all_taken l.read) at comes)
