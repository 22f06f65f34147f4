-- Judging step by step: each refusal and the judgement, as the definition gives them.
use Rattle.std.specs.Prelude.{◌≡◌, List, [], ◌∷◌, ◌++◌, Bool, length, take}
use Rattle.std.proofs.Math.Path.{refl}
use Rattle.std.proofs.Common.{ap, ap₂, sym, ◌∙◌}
use Prim.Native.Nat.{ℕ}
use borrow.Author.Tests.{eq-eqb, ne_eqb}
use Rattle.foundation.specs.Tests.{choose}
use Rattle.model.specs.Tables.{Contract}
use Rattle.model.specs.Trees.{Tree}
use Rattle.model.specs.Kinds.{kind_of}
use Rattle.model.specs.Documents.{document_tree, numbers_taken, leading_tree, leading_verdict}
use Rattle.model.specs.Answers.{fine, refuse_if, ◌then◌, Answer, admitted, judged, refusal, given}
use Rattle.model.specs.Admission.{admission, admit}
use Rattle.model.specs.Judging.{Judged, judgement, judging_verdict, judging}
use Rattle.model.proofs.Laws.Answers.{given_stopped}
use Rattle.model.proofs.Laws.Established.{Established}
use Rattle.model.proofs.Laws.Admitted.{established, admit_fine}
use Rattle.answers.specs.Numbers.{contract_refusal, document_refusal}
use Rattle.answers.specs.declared.ContractFault.{ContractFault}
use Rattle.answers.specs.declared.DocumentFault.{DocumentFault}
use Rattle.reading.specs.Answers.{fault_verdict, fault_given}
use Rattle.reading.specs.Taken.{TakesDocument, taken_fine, all_taken}
use Rattle.answers.proofs.Answered.{refused_as}
use Rattle.breaking.specs.declared.Verdicts.{Verdicts}
use Rattle.breaking.specs.Verdicts.{VerdictsOf, taking, breaking, taking_is, breaking_is}
use Rattle.document_kinds.specs.Stored.{kind_taken}

-- an answer and the closing buffer
pub record Comes (answer : Answer) (words : List ℕ) (to : Judged) : Type 0 where
  pub answers : answer ≡ to.answer
  pub closes : words ≡ to.words

-- the judgement of a tree that took so many numbers, and its kind
abbrev pub judged_tree : Contract → Tree → ℕ → Judged
judged_tree C t taken = record { answer = judged (judgement C (kind_of C t)) taken; words = kind_of C t }

-- 0, not taken; 1, taken and not breaking the contract; 2, taken and breaking
abbrev pub judgement_by : (takes broken : Bool) → ℕ
judgement_by takes broken = choose takes (choose broken 2 1) 0

-- what the two words of a contract, and the mark of one root, tell of a kind
abbrev pub told : Verdicts → List ℕ → ℕ
told v kind = judgement_by (taking v.accepted kind) (breaking v.accepted v.refused kind)

-- which is the judgement; the kind of a tree is held with a sixth word, and written without
pub comes_judged : (C : Contract) (v : Verdicts) (t : Tree) (result taken : ℕ) (held written : List ℕ) → Established C
    → VerdictsOf C.input.marks C.output.marks v
    → held ≡ kind_of C t ++ (0 ∷ [])
    → written ≡ take 5 held
    → result ≡ told v held
    → Comes (judged result taken) written (judged_tree C t taken)
unfolding judgement
comes_judged C v t result taken held written known of kind puts says =
    let five : take 5 held ≡ kind_of C t = ap (λ (k : List ℕ). take 5 k) kind ∙ kind_taken C t in
    let is : told v held ≡ judgement C (take 5 held) = ap₂ judgement_by (taking_is C known v of held) (breaking_is C known v of held) in
    record { answers = ap (λ (r : ℕ). judged r taken) (says ∙ is ∙ ap (judgement C) five); closes = puts ∙ five }

-- what is known where nothing is refused
pub record LetIn (C : Contract) (taken : ℕ) (numbers buffer : List ℕ) : Type 0 where
  pub passed : admission C ≡ fine
  pub known : Established C
  pub five : length buffer ≡ 5
  pub read : TakesDocument C.transformation.symbols taken numbers

pub let-in : {C : Contract} {taken : ℕ} {numbers buffer : List ℕ} → admitted ≡ admit C → length buffer ≡ 5
    → fine ≡ leading_verdict C.transformation.symbols numbers
    → taken ≡ numbers_taken C.transformation.symbols numbers
    → LetIn C taken numbers buffer
let-in {C} e five passes same =
    let good = admit_fine C (sym e) in
    record { passed = good; known = established C good; five = five; read = taken_fine _ _ _ (sym passes) same }

module _ (C : Contract) (numbers buffer : List ℕ) where
  pub refused_contract : (fault : ContractFault) → contract_refusal fault ≡ admit C → Comes (contract_refusal fault) buffer (judging C numbers buffer)
  unfolding judging judging_verdict admit
  refused_contract fault e =
      let r = refused_as fault (admission C) e in
      let q : judging C numbers buffer ≡ record { answer = refusal r.number r.place; words = buffer } =
      given_stopped _ _ (admission C) _ r.number r.place r.verdict in
      rw q (record { answers = r.says; closes = refl })

  pub refused_buffer : admission C ≡ fine → (length buffer ≡ 5 → ⊥) → Comes (refusal 9 0) buffer (judging C numbers buffer)
  unfolding judging judging_verdict given ◌then◌ refuse_if
  refused_buffer e ne = record { answers = rw (e, ne_eqb (length buffer) 5 ne); closes = rw (e, ne_eqb (length buffer) 5 ne) }

  pub refused_document : admission C ≡ fine → length buffer ≡ 5 → (fault : DocumentFault)
      → fault_verdict fault ≡ leading_verdict C.transformation.symbols numbers
      → Comes (document_refusal fault) buffer (judging C numbers buffer)
  unfolding judging judging_verdict ◌then◌ refuse_if
  refused_document e l fault d =
      let q : judging C numbers buffer ≡ record { answer = document_refusal fault; words = buffer } =
      rw (e, eq-eqb (length buffer) 5 l, ← d) (fault_given fault (λ (a : Answer). record { answer = a; words = buffer }) _) in
      rw q (record { answers = refl; closes = refl })

  -- where nothing is refused: the judgement of the numbers taken
  pub judged_document : {taken : ℕ} → LetIn C taken numbers buffer → {answer : Answer} {words : List ℕ}
      → Comes answer words (judged_tree C (document_tree (take taken numbers)) (length (take taken numbers)))
      → Comes answer words (judging C numbers buffer)
  unfolding judging judging_verdict leading_tree given ◌then◌ refuse_if
  judged_document {taken} l comes =
      let S : ℕ = C.transformation.symbols in
      let q : judging C numbers buffer ≡ judged_tree C (document_tree (take (numbers_taken S numbers) numbers)) (numbers_taken S numbers) =
      rw (l.passed, eq-eqb (length buffer) 5 l.five, l.read.passes) in
      rw (q, ← l.read.same) (rw (all_taken l.read) at comes)
