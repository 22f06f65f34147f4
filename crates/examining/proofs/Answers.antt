-- An answer that is no refusal refuses nothing.
use mathlib.Core.Path.{◌≡◌, refl}
use Rattle.std.specs.Prelude.{Ok}
use Rattle.model.specs.Answers.{fine}
use Rattle.answers.specs.Numbers.{numbered}
use Rattle.answers.specs.declared.numbered.Answer as code
use Rattle.answers.specs.declared.numbered.Answer.TheVariants as answer
use Rattle.examining.specs.Answers.{verdict_in}

pub no_refusal : (a : code.Answer) → verdict_in (numbered (Ok a)) ≡ fine
no_refusal answer.Admitted = refl
no_refusal (answer.Judged result taken) = refl
no_refusal (answer.Tree row) = refl
no_refusal (answer.Pass count) = refl
no_refusal (answer.Ran root used taken) = refl
no_refusal (answer.Written count) = refl
no_refusal (answer.Stopped limit height) = refl
