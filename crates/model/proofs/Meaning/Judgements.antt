-- What a result of judging says of the numbers that were handed in.
use mathlib.Core.Path.{◌≡◌, refl, ap, ap₂, subst, sym, ◌∙◌}
use mathlib.Core.Bool.{Bool, true, false, not}
use mathlib.Core.List.{List, [], ◌∷◌, ◌++◌, append_assoc, append-nil}
use Prim.Native.Nat.{ℕ, zero, suc, ◌≤◌}
use native.Mathlib.Omega.{arith}
use borrow.Author.Tests.{eqb-true, not-false}
use lib.Dec.{eqb}
use lib.ListN.{length, drop}
use lib.Seq.{drop-append_seam}
use Rattle.foundation.specs.Tests.{choose}
use Rattle.model.specs.Trees.{Tree, OneRoot, preorder}
use Rattle.model.specs.Tables.{Contract}
use Rattle.model.specs.Documents.{preorders, numbers_taken, leading_tree}
use Rattle.model.specs.Answers as answers
use Rattle.model.specs.Answers.{Verdict, fine, refuse_if, ◌then◌, judged, refusal, taken_by_answer, given}
use Rattle.model.specs.Admission.{admission}
use Rattle.model.specs.Kinds.{kind_of, is_taken, breaks}
use Rattle.model.specs.Judging.{Judged, judgement, judging_verdict, judging}
use Rattle.model.specs.Refusals.{LeadingDocument, ReadsLeading}
use Rattle.model.specs.Claims.{Admitted}
use Rattle.model.specs.Meaning.{Judges, JudgedMeans, JudgedOrRefused, is_judged, is-refused, JudgingMeans, IsDocument, InTurn, JudgesInTurn, JudgedAlone}
use Rattle.model.proofs.Laws.Answers.{then_fine, then_passed, refuse_if_fine, refuse_if_passed, given_fine, given_refused}
use Rattle.model.proofs.Laws.Admitted.{established}
use Rattle.model.proofs.Laws.Documents.{ends_taken, ends_fine, reading_followed, leading_tree_followed}
use Rattle.model.proofs.Meaning.Kinds.{judgement_exactly}
use Rattle.model.proofs.Meaning.Verdicts.{fine_document, reads_leading}
use Rattle.model.proofs.Meaning.Refusals.{operation_refusals}

-- a tree has one result
judgement_few : (C : Contract) (kind : List ℕ) → judgement C kind ≤ 2
unfolding judgement
judgement_few C kind = go (is_taken C kind) (breaks C kind)
  where
    go : (a b : Bool) → choose a (choose b 2 1) 0 ≤ 2
    go true true = omega arith
    go true false = omega arith
    go false b = omega arith

judges_same : (C : Contract) (t : Tree) (m n : ℕ) → m ≤ 2 → Judges C t m → Judges C t n → m ≡ n
judges_same C t zero n few a b = sym (b.zero.1 (a.zero.0 refl))
judges_same C t (suc zero) n few a b = sym (b.one.1 (a.one.0 refl))
judges_same C t (suc (suc zero)) n few a b = sym (b.two.1 (a.two.0 refl))
judges_same C t (suc (suc (suc m))) n few a b = absurd (omega arith)

module _ (C : Contract) (numbers buffer : List ℕ) where
  abbrev S : ℕ
  S = C.transformation.symbols

  abbrev answered : Judged
  answered = judging C numbers buffer

  -- the result is that of the tree read
  abbrev result : ℕ
  result = judgement C (kind_of C (leading_tree S numbers))

  -- what reading says, of an admitted contract
  reads : Admitted C → ReadsLeading S numbers
  reads good = reads_leading S numbers (established C good).symbols.least≤

  judges_read : Admitted C → (t : Tree) (n : ℕ) → LeadingDocument S numbers t n → Judges C t result
  judges_read good t n d = rw ((reads good).tree t n d) (judgement_exactly C (established C good) t d.begins.over)

  -- what judging gives for each verdict
  passed : judging_verdict C numbers buffer ≡ fine
      → answered ≡ record { answer = judged result (numbers_taken S numbers); words = kind_of C (leading_tree S numbers) }
  unfolding judging
  passed e = given_fine _ _ (judging_verdict C numbers buffer) e

  turned_away : (number place : ℕ) → judging_verdict C numbers buffer ≡ answers.refused number place
      → answered ≡ record { answer = refusal number place; words = buffer }
  unfolding judging
  turned_away number place e = given_refused _ _ (judging_verdict C numbers buffer) number place e

  -- a result comes of a verdict that refuses nothing
  judged_passed : (r n : ℕ) → answered.answer ≡ judged r n → judging_verdict C numbers buffer ≡ fine
  judged_passed r n e = go (judging_verdict C numbers buffer) refl
    where
      go : (v : Verdict) → judging_verdict C numbers buffer ≡ v → judging_verdict C numbers buffer ≡ fine
      go fine f = f
      go (answers.refused number place) f =
          let said : refusal number place ≡ judged r n = sym (ap (λ (j : Judged). j.answer) (turned_away number place f)) ∙ e in
          absurd (let z : ◌≡◌ {A = ℕ} 0 1 = cc in omega arith)

  -- which says of the contract, the buffer and the numbers
  passed_means : judging_verdict C numbers buffer ≡ fine → JudgedMeans C numbers buffer result (numbers_taken S numbers)
  unfolding judging_verdict
  passed_means e =
      let (good, rest) = then_fine (admission C) _ e in
      let (five, read) = then_fine _ _ rest in
      let d = fine_document S numbers read in
      record {
        is_admitted = good;
        five_words = eqb-true (length buffer) 5 (not-false _ (refuse_if_fine _ 9 0 five));
        document = leading_tree S numbers;
        leads = d;
        judges = judges_read good (leading_tree S numbers) (numbers_taken S numbers) d;
      }

  fits : Admitted C → length buffer ≡ 5 → (t : Tree) (n : ℕ) → LeadingDocument S numbers t n → judging_verdict C numbers buffer ≡ fine
  unfolding judging_verdict
  fits good five t n d =
      then_passed _ _ good ∙ then_passed _ _ (refuse_if_passed _ 9 0 (rw five refl)) ∙ (reads good).passes.1 (t, n, d)

  -- what is given for the document that the numbers begin with
  judged_document : Admitted C → length buffer ≡ 5 → (t : Tree) (n : ℕ) → LeadingDocument S numbers t n
      → answered ≡ record { answer = judged (judgement C (kind_of C t)) n; words = kind_of C t }
  judged_document good five t n d =
      passed (fits good five t n d)
      ∙ ap₂ (λ (u : Tree) (k : ℕ). record { answer = judged (judgement C (kind_of C u)) k; words = kind_of C u })
      ((reads good).tree t n d) ((reads good).taken t n d)

  pub judging_means : JudgingMeans C numbers buffer (judging C numbers buffer).answer (judging C numbers buffer).words
  judging_means =
      record {
        judged_or_refused = one_of (judging_verdict C numbers buffer) refl;
        judged_exactly = λ r n. (to r n, from r n);
        kind_written = λ r n e t d. ap (λ (j : Judged). j.words) (judged_document (to r n e).is_admitted (to r n e).five_words t n d);
        others_zero = others;
        refuses = operation_refusals.of_judging C numbers buffer;
      }
    where
      to : (r n : ℕ) → answered.answer ≡ judged r n → JudgedMeans C numbers buffer r n
      to r n e =
          let v = judged_passed r n e in
          let said : judged result (numbers_taken S numbers) ≡ judged r n = sym (ap (λ (j : Judged). j.answer) (passed v)) ∙ e in
          let same : result ≡ r = cc in
          let took : numbers_taken S numbers ≡ n = cc in
          rw (same, took) at (passed_means v)

      from : (r n : ℕ) → JudgedMeans C numbers buffer r n → answered.answer ≡ judged r n
      from r n m =
          let d = m.leads in
          let t : Tree = m.document in
          ap (λ (j : Judged). j.answer) (judged_document m.is_admitted m.five_words t n d)
          ∙ ap (λ (k : ℕ). judged k n)
          (judges_same C t _ r (judgement_few C (kind_of C t)) (judgement_exactly C (established C m.is_admitted) t d.begins.over) m.judges)

      others : (r n : ℕ) → answered.answer ≡ judged r n → (t : Tree) → LeadingDocument S numbers t n → (OneRoot t → ⊥) → r ≡ 0
      others r n e t d not-one =
          let m : JudgedMeans C numbers buffer r n = to r n e in
          let is : judged (judgement C (kind_of C t)) n ≡ judged r n =
          sym (ap (λ (j : Judged). j.answer) (judged_document m.is_admitted m.five_words t n d)) ∙ e in
          let same : judgement C (kind_of C t) ≡ r = cc in
          rw same at ((judgement_exactly C (established C m.is_admitted) t d.begins.over).zero.1 (λ taken. not-one taken.one_root))

      one_of : (v : Verdict) → judging_verdict C numbers buffer ≡ v → JudgedOrRefused answered.answer
      one_of fine e = is_judged result (numbers_taken S numbers) (ap (λ (j : Judged). j.answer) (passed e))
      one_of (answers.refused number place) e = is-refused number place (ap (λ (j : Judged). j.answer) (turned_away number place e))

-- Documents laid end to end

-- a document is judged as it is alone
module _ (C : Contract) (t : Tree) (buffer : List ℕ) (good : Admitted C) (document : IsDocument C t) where
  document_judged : (rest : List ℕ)
      → judging C (preorder t ++ rest) buffer
      ≡ given (admission C then refuse_if (not (eqb (length buffer) 5)) 9 0 then fine)
      (λ number place. record { answer = refusal number place; words = buffer })
      (record { answer = judged (judgement C (kind_of C t)) (length (preorder t)); words = kind_of C t })
  unfolding judging judging_verdict
  document_judged rest =
      let symbols : ℕ = C.transformation.symbols in
      let some : 1 ≤ symbols = (established C good).symbols.least≤ in
      let read = reading_followed symbols t rest some document.0 document.1 in
      rw (ends_fine symbols _ _ read, ends_taken symbols _ _ read, leading_tree_followed symbols t rest some document.0 document.1)

  five_judged : (rest : List ℕ) → length buffer ≡ 5
      → judging C (preorder t ++ rest) buffer ≡ record { answer = judged (judgement C (kind_of C t)) (length (preorder t)); words = kind_of C t }
  unfolding given ◌then◌ refuse_if
  five_judged rest five = document_judged rest ∙ rw (good, five)

pub judged_alone : (C : Contract) (t : Tree) (rest buffer : List ℕ) → JudgedAlone C t rest buffer
judged_alone C t rest buffer good document =
    document_judged C t buffer good document rest ∙ sym (rw (append-nil (preorder t)) at (document_judged C t buffer good document []))

-- each judgement tells where its document ended
pub judges_in_turn : (C : Contract) (ts : List Tree) (rest : List ℕ) (js : List Judged) → JudgesInTurn C ts rest js
unfolding preorders
judges_in_turn C [] rest [] good all count turns words five = refl
judges_in_turn C [] rest (j ∷ js) good all count turns words five = absurd (omega arith)
judges_in_turn C (t ∷ ts) rest [] good all count turns words five = absurd (omega arith)
judges_in_turn C (t ∷ ts) rest (j ∷ js) good all count turns words five =
    ap₂ (λ (j : Judged) (js : List Judged). j ∷ js) (is ∙ sym (rw (append-nil (preorder t)) at (five_judged C t words good all.0 [] five)))
    (judges_in_turn C ts rest js good all.1 (omega arith) (subst (λ (xs : List ℕ). InTurn C xs js) left turns.1) words five)
  where
    behind : List ℕ
    behind = preorders ts ++ rest

    numbers : (preorder t ++ preorders ts) ++ rest ≡ preorder t ++ behind
    numbers = append_assoc (preorder t) (preorders ts) rest

    is : j ≡ record { answer = judged (judgement C (kind_of C t)) (length (preorder t)); words = kind_of C t }
    is =
        let (buffer, lent, judges) = turns.0 in
        judges ∙ ap (λ (xs : List ℕ). judging C xs buffer) numbers ∙ five_judged C t buffer good all.0 behind lent

    left : drop (taken_by_answer j.answer) ((preorder t ++ preorders ts) ++ rest) ≡ behind
    left =
        ap (λ (k : Judged). drop (taken_by_answer k.answer) ((preorder t ++ preorders ts) ++ rest)) is
        ∙ ap (drop (length (preorder t))) numbers
        ∙ drop-append_seam (preorder t) behind
