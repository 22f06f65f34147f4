-- The answers of the five operations: each refuses for its verdict's reasons, and writes nothing then.
use mathlib.Core.Path.{◌≡◌, refl, ap, ap₂, sym, ◌∙◌}
use mathlib.Core.List.{List, [], ◌∷◌}
use Prim.Native.Nat.{ℕ}
use native.Mathlib.Omega.{arith}
use Rattle.model.specs.Tables.{Contract}
use Rattle.model.specs.Answers.{Verdict, fine, refused, Answer, judged, tree, pass, written, refusal, given}
use Rattle.model.specs.Admission.{admission, admit}
use Rattle.model.specs.Judging.{Judged, judging_verdict, judging}
use Rattle.model.specs.Checking.{Checked, standing, check, checking_verdict, checking}
use Rattle.model.specs.Running.{Ran, running_verdict, running}
use Rattle.model.specs.WritingOut.{Written, writing_verdict, writing_out}
use Rattle.model.specs.Meaning.{RunRefusal, no_rule, no_row, too_many_calls}
use Rattle.model.specs.Refusals.{Reason, FirstReason, RefusesFor, Refuses, NotOfRun, admission_reasons, judging_reasons, checking_reasons, running_reasons, writing_reasons, OperationRefusals}
use Rattle.model.proofs.Laws.Answers.{Numbers, refusal_admits_nothing, given_fine, given_refused}
use Rattle.model.proofs.Rounds.Stopping.{Ending, shows, passes, stops, check_ends}
use Rattle.model.proofs.Meaning.Answers.{stopped_not_refusal}
use Rattle.model.proofs.Meaning.Runs.{running_refusal}
use Rattle.model.proofs.Meaning.Verdicts.{admission_refusals, judging_refusals, checking_refusals, running_refusals, writing_refusals, running_numbers, admission-not-ten, judging-not-ten, checking-not-ten, running-not-ten, writing-not-ten}

-- an operation r that gives its verdict's refusal, with the buffers as they were lent, or else a, which is no refusal of these numbers
module _ {R : Type 0} (r : R) (v : Verdict) (on_refusal : ℕ → ℕ → R) (a : R) (gives : r ≡ given v on_refusal a) (answer : R → Answer)
    (buffers : R → List (List ℕ)) (lent : List (List ℕ))
    (refusing : (number place : ℕ) → (answer (on_refusal number place) ≡ refusal number place) × (buffers (on_refusal number place) ≡ lent)) where
  refused_gives : (number place : ℕ) → v ≡ refused number place → r ≡ on_refusal number place
  refused_gives number place e = gives ∙ given_refused on_refusal a v number place e

  told : (number place : ℕ) → (v ≡ fine → answer r ≡ refusal number place → ⊥) → answer r ≡ refusal number place → v ≡ refused number place
  told number place never e = go v refl
    where
      go : (w : Verdict) → v ≡ w → v ≡ refused number place
      go fine f = absurd (never f e)
      go (refused m q) f =
          let same : refusal m q ≡ refusal number place = sym (refusing m q).0 ∙ ap answer (sym (refused_gives m q f)) ∙ e in
          let em : m ≡ number = cc in
          let eq : q ≡ place = cc in
          f ∙ ap₂ refused em eq

  module _ (reasons : List Reason) (for : RefusesFor reasons v) where
    -- where Early says which numbers are meant
    early_refuses : (Early : ℕ → Type 0) → ((number place : ℕ) → FirstReason reasons number place → Early number)
        → ((number place : ℕ) → v ≡ fine → answer r ≡ refusal number place → Early number → ⊥)
        → Refuses reasons (λ number place. (answer r ≡ refusal number place) × Early number) lent (buffers r)
    early_refuses Early early never =
        record {
          exactly = λ number place. (
            λ (e, meant). (for.refuses number place).0 (told number place (λ f g. never number place f g meant) e),
            λ f. (ap answer (refused_gives number place ((for.refuses number place).1 f)) ∙ (refusing number place).0, early number place f),
          );
          nothing_written = λ number place (e, meant).
              ap buffers (refused_gives number place (told number place (λ f g. never number place f g meant) e)) ∙ (refusing number place).1;
        }

    all_refuse : ((number place : ℕ) → answer a ≡ refusal number place → ⊥)
        → Refuses reasons (λ number place. answer r ≡ refusal number place) lent (buffers r)
    all_refuse never =
        let early = early_refuses (λ number. Unit {0}) (λ number place f. tt) (λ number place f e one. never number place (sym (ap answer (gives ∙ given_fine on_refusal a v f)) ∙ e)) in
        record {
          exactly = λ number place. (λ e. (early.exactly number place).0 (e, tt), λ f. ((early.exactly number place).1 f).0);
          nothing_written = λ number place e. early.nothing_written number place (e, tt);
        }

-- what is no refusal
tree_no_refusal : {j number place : ℕ} → tree j ≡ refusal number place → ⊥
tree_no_refusal e = let z : ◌≡◌ {A = ℕ} 0 1 = cc in omega arith

pass_no_refusal : {n number place : ℕ} → pass n ≡ refusal number place → ⊥
pass_no_refusal e = let z : ◌≡◌ {A = ℕ} 0 1 = cc in omega arith

judged_no_refusal : {result taken number place : ℕ} → judged result taken ≡ refusal number place → ⊥
judged_no_refusal e = let z : ◌≡◌ {A = ℕ} 0 1 = cc in omega arith

written_no_refusal : {n number place : ℕ} → written n ≡ refusal number place → ⊥
written_no_refusal e = let z : ◌≡◌ {A = ℕ} 0 1 = cc in omega arith

-- a check that is let in passes, shows a tree or stops
check_no_refusal : (C : Contract) (L number place : ℕ) → (check C L).answer ≡ refusal number place → ⊥
unfolding standing
check_no_refusal C L number place e = go (check_ends C L)
  where
    go : Ending C L (check C L) → ⊥
    go (shows j l i b n f) = tree_no_refusal (sym (ap (λ (c : Checked). c.answer) f) ∙ e)
    go (passes d l n f) = pass_no_refusal (sym (ap (λ (c : Checked). c.answer) f) ∙ e)
    go (stops l n f) = stopped_not_refusal (ap (λ (c : Checked). c.answer) f) e

-- a run is refused by 13 to 15
run_refuses_late : {procedures free most number place : ℕ} → RunRefusal procedures free most number place → NotOfRun number → ⊥
run_refuses_late (no_rule e l) early = early (omega arith) (omega arith)
run_refuses_late (no_row e l) early = early (omega arith) (omega arith)
run_refuses_late (too_many_calls e l) early = early (omega arith) (omega arith)

admission_refuses : (C : Contract) → Refuses (admission_reasons C) (λ number place. admit C ≡ refusal number place) [] []
unfolding admit
admission_refuses C =
    all_refuse (admit C) (admission C) _ _ refl (λ a. a) (λ a. []) [] (λ n p. (refl, refl)) _ (admission_refusals C)
    (λ n p e. refusal_admits_nothing n p (sym e))

judging_refuses : (C : Contract) (numbers buffer : List ℕ)
    → Refuses (judging_reasons C numbers buffer) (λ number place. (judging C numbers buffer).answer ≡ refusal number place) (buffer ∷ [])
    ((judging C numbers buffer).words ∷ [])
unfolding judging
judging_refuses C numbers buffer =
    all_refuse (judging C numbers buffer) (judging_verdict C numbers buffer) _ _ refl (λ (j : Judged). j.answer) (λ (j : Judged). j.words ∷ [])
    (buffer ∷ []) (λ n p. (refl, refl)) _ (judging_refusals C numbers buffer) (λ n p e. judged_no_refusal e)

checking_refuses : (C : Contract) (L : ℕ) (rows words : List ℕ)
    → Refuses (checking_reasons C L rows words) (λ number place. (checking C L rows words).answer ≡ refusal number place) (rows ∷ words ∷ [])
    ((checking C L rows words).rows ∷ (checking C L rows words).words ∷ [])
unfolding checking
checking_refuses C L rows words =
    all_refuse (checking C L rows words) (checking_verdict C L rows words) _ _ refl (λ (c : Checked). c.answer)
    (λ (c : Checked). c.rows ∷ c.words ∷ []) (rows ∷ words ∷ []) (λ n p. (refl, refl)) _ (checking_refusals C L rows words)
    (λ n p e. check_no_refusal C L n p e)

running_refuses : (C : Contract) (numbers buffer : List ℕ)
    → Refuses (running_reasons C numbers buffer) (λ number place. ((running C numbers buffer).answer ≡ refusal number place) × NotOfRun number)
    (buffer ∷ [])
    ((running C numbers buffer).rows ∷ [])
unfolding running
running_refuses C numbers buffer =
    early_refuses (running C numbers buffer) (running_verdict C numbers buffer) _ _ refl (λ (r : Ran). r.answer) (λ (r : Ran). r.rows ∷ [])
    (buffer ∷ []) (λ n p. (refl, refl)) _ (running_refusals C numbers buffer) NotOfRun
    (λ n p f. running_numbers C numbers buffer n p (((running_refusals C numbers buffer).refuses n p).1 f))
    (λ n p f e meant. run_refuses_late (running_refusal C numbers buffer n p f e).reason meant)

writing_refuses : (rows : List ℕ) (row : ℕ) (buffer : List ℕ)
    → Refuses (writing_reasons rows row buffer) (λ number place. (writing_out rows row buffer).answer ≡ refusal number place) (buffer ∷ [])
    ((writing_out rows row buffer).numbers ∷ [])
unfolding writing_out
writing_refuses rows row buffer =
    all_refuse (writing_out rows row buffer) (writing_verdict rows row buffer) _ _ refl (λ (w : Written). w.answer)
    (λ (w : Written). w.numbers ∷ []) (buffer ∷ []) (λ n p. (refl, refl)) _ (writing_refusals rows row buffer)
    (λ n p e. written_no_refusal e)

-- an answer that refuses by 10 would be the verdict's refusal
not_ten : {reasons : List Reason} {v : Verdict} {Answers : (number place : ℕ) → Type 0} {lent closing : List (List ℕ)} → RefusesFor reasons v
    → Numbers (λ number. number ≡ 10 → ⊥) v
    → Refuses reasons Answers lent closing
    → (place : ℕ) → Answers 10 place → ⊥
not_ten for other refuses place e = other 10 place ((for.refuses 10 place).1 ((refuses.exactly 10 place).0 e)) refl

pub operation_refusals : OperationRefusals
operation_refusals =
    record {
      of_admission = admission_refuses;
      of_judging = judging_refuses;
      of_checking = checking_refuses;
      of_running = running_refuses;
      of_writing_out = writing_refuses;
      admission_not_ten = λ C. not_ten (admission_refusals C) (admission-not-ten C) (admission_refuses C);
      judging_not_ten = λ C numbers buffer.
          not_ten (judging_refusals C numbers buffer) (judging-not-ten C numbers buffer) (judging_refuses C numbers buffer);
      checking_not_ten = λ C L rows words.
          not_ten (checking_refusals C L rows words) (checking-not-ten C L rows words) (checking_refuses C L rows words);
      running_not_ten = λ C numbers buffer place e.
          not_ten (running_refusals C numbers buffer) (running-not-ten C numbers buffer) (running_refuses C numbers buffer) place
          (e, λ l m. omega arith);
      writing_not_ten = λ rows row buffer.
          not_ten (writing_refusals rows row buffer) (writing-not-ten rows row buffer) (writing_refuses rows row buffer);
    }
