-- The number and the place of a verdict, 0 and 0 where nothing is refused.
use Rattle.model.specs.Answers.{Verdict, fine, refused}
use Rattle.answers.specs.declared.numbered.Refusal.{Refusal}

abbrev pub refusal_for : Verdict → Refusal
refusal_for fine = record { number = 0; place = 0 }
refusal_for (refused number place) = record { number = number; place = place }
