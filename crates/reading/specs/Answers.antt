-- The readings and verdicts of the model that the code's answers stand for.
use Rattle.std.specs.Prelude.{◌≡◌, refl, ℕ, Result, Ok, Err}
use Rattle.model.specs.Answers.{Verdict, fine, refused, Answer, refusal, given}
use Rattle.model.specs.Documents as model
use Rattle.answers.specs.declared.DocumentFault.{DocumentFault}
use Rattle.answers.specs.declared.DocumentFault.TheVariants as fault
use Rattle.answers.specs.Numbers.{document_refusal}

-- how many numbers the leading tree has, or the place of the fault
abbrev pub leading_of : Result ℕ ℕ → model.Leading
leading_of (Ok at) = model.ends at
leading_of (Err at) = model.faulty at

-- what is wrong with a document, by the number of a tree without end and the number of a fault
abbrev pub document_verdict : (endless faulty : ℕ) → DocumentFault → Verdict
document_verdict endless faulty (fault.Length numbers) = refused endless numbers
document_verdict endless faulty (fault.Number place) = refused faulty place

-- refusals 11 and 12
abbrev pub fault_verdict : DocumentFault → Verdict
fault_verdict f = document_verdict 11 12 f

abbrev pub reading_verdict : Result ℕ DocumentFault → Verdict
reading_verdict (Ok taken) = fine
reading_verdict (Err fault) = fault_verdict fault

-- how many numbers were taken
abbrev pub taken_by_reading : Result ℕ DocumentFault → ℕ
taken_by_reading (Ok taken) = taken
taken_by_reading (Err fault) = 0

-- a fault is answered by its refusal, whatever else the answer holds
pub fault_given : {A : Type 0} (f : DocumentFault) (with-answer : Answer → A) (a : A)
    → given (fault_verdict f) (λ number place. with-answer (refusal number place)) a ≡ with-answer (document_refusal f)
unfolding given
fault_given (fault.Length numbers) with-answer a = refl
fault_given (fault.Number place) with-answer a = refl
