-- Admission, the tests of the buffer and of the document, which of two verdicts comes first, and what is known of a contract and a document
-- that pass.
use mathlib.Core.Path.{◌≡◌, refl, ap, sym}
use mathlib.Core.Bool.{true, false, not}
use mathlib.Core.List.{List}
use Prim.Native.Nat.{ℕ, ◌%◌, ◌≤◌}
use native.Mathlib.Omega.{arith}
use lib.Dec.{eqb, ltb}
use lib.ListN.{length, take}
use borrow.Author.Tests.{ltb-false}
use Rattle.foundation.specs.TestLaws.{or_second}
use Rattle.model.specs.Tables.{Transformation, Contract}
use Rattle.model.specs.Answers.{Verdict, fine, refused, Answer, admitted, refusal, refuse_if, ◌then◌, given}
use Rattle.model.specs.Documents.{document_tree, numbers_taken, leading_tree, leading_verdict}
use Rattle.model.specs.Rows.{row_count}
use Rattle.model.specs.Running.{Ran, rows_wrong, run, closing, running_verdict, running}
use Rattle.model.specs.Admission.{admission, admit}
use Rattle.answers.specs.declared.DocumentFault.{DocumentFault}
use Rattle.answers.specs.declared.ContractFault.{ContractFault}
use Rattle.answers.specs.Numbers.{contract_refusal, document_refusal}
use Rattle.model.proofs.Laws.Documents.{Document, some_number}
use Rattle.model.proofs.Laws.Established.{Established}
use Rattle.model.proofs.Laws.Answers.{refuse_if_passed, then_fine, then_passed, given_stopped}
use Rattle.model.proofs.Laws.Admitted.{established, admit_fine}
use Rattle.answers.proofs.Answered.{refused_as}
use Rattle.reading.specs.Answers.{fault_verdict, fault_given}
use Rattle.reading.specs.Taken.{TakesDocument, taken_fine, all_taken}
use Rattle.running.specs.Places.{ReadDocument}
use Rattle.running.specs.Promises.{Admitted, EndsWith, before_work, after_admission}

read_document : (S : ℕ) (numbers : List ℕ) → Document S numbers → S ≤ 16 → ReadDocument numbers
read_document S numbers known high =
    record {
      some = rw known.numbers at (some_number (document_tree numbers));
      few = known.few;
      symbol = λ place h. omega (arith, known.below place h);
      readable = known.readable;
    }

-- a verdict that is not fine comes first
pub refused_first : (one next : Verdict) → (one ≡ fine → ⊥) → one ≡ (one then next)
unfolding ◌then◌
refused_first fine next other = absurd (other refl)
refused_first (refused number place) next other = refl

-- what is said before the work: the buffer is refused, the document is, or neither
module _ (T : Transformation) (numbers buffer : List ℕ) where
  -- where nothing is refused before the work, neither is
  both_fine : before_work T.symbols numbers (length buffer) ≡ fine → (refuse_if (rows_wrong (length buffer)) 9 0 ≡ fine) × (leading_verdict T.symbols numbers ≡ fine)
  both_fine passed = then_fine _ _ passed

  pub buffer_refused : rows_wrong (length buffer) ≡ true → EndsWith (after_admission T numbers buffer) (refusal 9 0) buffer
  unfolding after_admission given refuse_if ◌then◌
  buffer_refused wrong = rw (after_admission, wrong) (record { answered = refl; left = refl })

  module _ (right : rows_wrong (length buffer) ≡ false) where
    said : before_work T.symbols numbers (length buffer) ≡ leading_verdict T.symbols numbers
    said = then_passed _ _ (refuse_if_passed _ 9 0 right)

    pub document_refused : (fault : DocumentFault) → fault_verdict fault ≡ leading_verdict T.symbols numbers
        → EndsWith (after_admission T numbers buffer) (document_refusal fault) buffer
    unfolding after_admission
    document_refused fault e =
        let ended : after_admission T numbers buffer ≡ record { answer = document_refusal fault; rows = buffer } =
        rw (after_admission, said, ← e)
        (fault_given fault (λ (a : Answer). record { answer = a; rows = buffer }) _) in
        record { answered = sym (ap (λ (r : Ran). r.answer) ended); left = sym (ap (λ (r : Ran). r.rows) ended) }

    pub rows_few : length buffer ≤ 12288
    rows_few = ltb-false 12288 (length buffer) (or_second (not (eqb (length buffer % 3) 0)) (ltb 12288 (length buffer)) right)

    -- where nothing is refused, the numbers taken are a document
    module _ (passed : fine ≡ leading_verdict T.symbols numbers) (taken : ℕ) (same : taken ≡ numbers_taken T.symbols numbers) where
      numbers-taken : TakesDocument T.symbols taken numbers
      numbers-taken = taken_fine T.symbols taken numbers (sym passed) same

      pub taken_there : length (take taken numbers) ≡ taken
      taken_there = all_taken numbers-taken

      pub taken_read : T.symbols ≤ 16 → ReadDocument (take taken numbers)
      taken_read high = read_document T.symbols (take taken numbers) numbers-taken.leads.document high

      pub document_run : {answer : Answer} {o : List ℕ}
          → EndsWith (closing (length buffer) (length (take taken numbers)) (run T (row_count buffer) (document_tree (take taken numbers)))) answer o
          → EndsWith (after_admission T numbers buffer) answer o
      unfolding after_admission given leading_tree
      document_run ends = rw (after_admission, said, ← passed, ← same) (rw taken_there at ends)

-- The whole operation

module _ (C : Contract) (numbers buffer : List ℕ) where
  pub contract_refused : (fault : ContractFault) → contract_refusal fault ≡ admit C → EndsWith (running C numbers buffer) (contract_refusal fault) buffer
  unfolding admit running running_verdict
  contract_refused fault e =
      let r = refused_as fault (admission C) e in
      let q : running C numbers buffer ≡ record { answer = refusal r.number r.place; rows = buffer } =
      given_stopped _ _ (admission C) _ r.number r.place r.verdict in
      rw q (record { answered = r.says; left = refl })

  -- where a contract is admitted, what is established of it is what running asks for
  module _ (passed : admitted ≡ admit C) where
    known : Established C
    known = established C (admit_fine C (sym passed))

    pub tables_known : Admitted C.transformation
    tables_known =
        record {
          symbols = known.symbols;
          procedures = known.procedures;
          nodes_long = omega (arith, known.nodes.whole, known.nodes.few);
          nodes_few = known.nodes.few;
          node = known.node;
          rule = known.rule;
        }

    pub contract_run : {answer : Answer} {o : List ℕ} → EndsWith (after_admission C.transformation numbers buffer) answer o → EndsWith (running C numbers buffer) answer o
    unfolding running running_verdict after_admission ◌then◌
    contract_run ends = rw (running, admit_fine C (sym passed)) ends
