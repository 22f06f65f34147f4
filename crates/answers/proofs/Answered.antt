-- Answered: what an answer of admission, or of a part of it, tells of the verdict that it answers; and which answer is given where
-- one part comes after another.
use mathlib.Core.Path.{◌≡◌, refl, sym, ap, ◌∙◌}
use Prim.Native.Nat.{ℕ}
use Rattle.std.specs.Prelude.{Result, Ok, Err}
use Rattle.model.specs.Answers.{Verdict, fine, refused, ◌then◌, Answer, admitted, refusal, given}
use Rattle.model.specs.Admission.{admitted_unless}
use Rattle.model.proofs.Laws.Answers.{refusal_admits_nothing, given_fine, given_refused, given_passed, given_stopped, given_admitted, then_refused}
use Rattle.answers.specs.declared.ContractFault.{ContractFault}
use Rattle.answers.specs.declared.ContractFault.TheVariants as fault
use Rattle.answers.specs.Numbers.{contract_refusal, admission_answer}

-- a fault is a refusal, and no admission
not_admitted : (f : ContractFault) → contract_refusal f ≡ admitted → ⊥
not_admitted (fault.Size place) e = refusal_admits_nothing _ place e
not_admitted (fault.Length place) e = refusal_admits_nothing _ place e
not_admitted (fault.InputRow place) e = refusal_admits_nothing _ place e
not_admitted (fault.Entry place) e = refusal_admits_nothing _ place e
not_admitted (fault.Count procedure) e = refusal_admits_nothing _ procedure.0 e
not_admitted (fault.Node what place) e = refusal_admits_nothing _ place e
not_admitted (fault.Rule place) e = refusal_admits_nothing _ place e
not_admitted (fault.Facts place) e = refusal_admits_nothing _ place e

-- the number and the place by which a verdict refuses, and that a fault stands for them
pub record RefusedAs (f : ContractFault) (v : Verdict) : Type 0 where
  pub number : ℕ
  pub place : ℕ
  pub says : contract_refusal f ≡ refusal number place
  pub verdict : v ≡ refused number place

pub refused_as : (f : ContractFault) (v : Verdict) → contract_refusal f ≡ admitted_unless v → RefusedAs f v
unfolding given
refused_as f fine e = absurd (not_admitted f e)
refused_as f (refused number place) e = record { number = number; place = place; says = e; verdict = refl }

pub answer_refused : (v w : Verdict) (number place : ℕ) → v ≡ refused number place → refusal number place ≡ admitted_unless (v then w)
answer_refused v w number place e = sym (given_stopped refusal admitted v w number place e)

pub answer_passed : (v w : Verdict) (a : Answer) → v ≡ fine → a ≡ admitted_unless w → a ≡ admitted_unless (v then w)
answer_passed v w a e h = h ∙ sym (given_passed refusal admitted v w e)

pub answer_last : (v : Verdict) (number place : ℕ) → v ≡ refused number place → refusal number place ≡ admitted_unless v
answer_last v number place e = sym (given_refused refusal admitted v number place e)

pub answer_fine : (v : Verdict) → v ≡ fine → admitted ≡ admitted_unless v
answer_fine v e = sym (given_fine refusal admitted v e)

-- a part that admits refuses nothing
pub part_passed : (a : Result Unit ContractFault) (v : Verdict) → a ≡ Ok tt → admission_answer a ≡ admitted_unless v → v ≡ fine
part_passed a v e h = given_admitted v (sym h ∙ ap admission_answer e)

-- and what a part refuses is the answer of every verdict that refuses the same
pub part_refused : (a : Result Unit ContractFault) (f : ContractFault) (v w : Verdict) → a ≡ Err f → admission_answer a ≡ admitted_unless v
    → ((number place : ℕ) → v ≡ refused number place → w ≡ refused number place)
    → admission_answer a ≡ admitted_unless w
part_refused a f v w e h same =
    let r = refused_as f v (sym (ap admission_answer e) ∙ h) in
    ap admission_answer e ∙ r.says ∙ answer_last w r.number r.place (same r.number r.place r.verdict)

-- as it is with whatever comes after
pub part_stopped : (a : Result Unit ContractFault) (f : ContractFault) (v w : Verdict) → a ≡ Err f → admission_answer a ≡ admitted_unless v
    → admission_answer a ≡ admitted_unless (v then w)
part_stopped a f v w e h = part_refused a f v (v then w) e h (λ number place. then_refused v w number place)
