-- What `read` establishes where it refuses nothing: how many numbers are taken, and that these by themselves are a document.
use Rattle.std.specs.Prelude.{◌≡◌, List, ℕ, length, take}
use Rattle.std.proofs.Common.{length-take-le}
use Rattle.model.specs.Answers.{fine}
use Rattle.model.specs.Documents.{numbers_taken, leading_verdict}
use Rattle.model.proofs.Laws.Documents.{Leads, leading_fine}

pub record TakesDocument (S taken : ℕ) (numbers : List ℕ) : Type 0 where
  pub passes : leading_verdict S numbers ≡ fine
  pub same : taken ≡ numbers_taken S numbers
  pub leads : Leads S taken numbers

pub taken_fine : (S taken : ℕ) (numbers : List ℕ) → leading_verdict S numbers ≡ fine → taken ≡ numbers_taken S numbers → TakesDocument S taken numbers
taken_fine S taken numbers passes same = record { passes = passes; same = same; leads = rw same (leading_fine S numbers passes) }

-- the numbers taken are there
pub all_taken : {S taken : ℕ} {numbers : List ℕ} → TakesDocument S taken numbers → length (take taken numbers) ≡ taken
all_taken {taken = taken} {numbers = numbers} d = length-take-le taken numbers d.leads.within
