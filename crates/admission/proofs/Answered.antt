-- What the answer of `admit` tells a caller: a contract that is admitted is established. (Of a fault see `refused_as` in `answers`.)
use mathlib.Core.Path.{◌≡◌, sym, ap, ◌∙◌}
use Rattle.std.specs.Prelude.{Result, Ok}
use Rattle.model.specs.Tables.{Contract}
use Rattle.model.specs.Answers.{fine}
use Rattle.model.specs.Admission.{admission, admit}
use Rattle.model.proofs.Laws.Established.{Established}
use Rattle.model.proofs.Laws.Admitted.{established, admit_fine}
use Rattle.answers.specs.declared.ContractFault.{ContractFault}
use Rattle.answers.specs.Numbers.{admission_answer}

pub admitted_fine : (r : Result Unit ContractFault) (C : Contract) → r ≡ Ok tt → admission_answer r ≡ admit C → admission C ≡ fine
admitted_fine r C e h = admit_fine C (sym h ∙ ap admission_answer e)

pub admitted_established : (r : Result Unit ContractFault) (C : Contract) → r ≡ Ok tt → admission_answer r ≡ admit C → Established C
admitted_established r C e h = established C (admitted_fine r C e h)
