-- What is lent holds sevens.
use mathlib.Core.Path.{◌∙◌}
use Prim.Native.Nat.{ℕ, ◌*◌}
use native.Mathlib.Omega.{arith}
use Rattle.std.proofs.lemmas.List.{take-replicate}
use Rattle.worked_table.specs.Questions.{ask}
use Rattle.worked.proofs.questions.ran.Goals as goal

pub returns : goal.returns
unfolding ask
returns c = rw (← take-replicate {X = ℕ} (3 * c.args.room) 1536 7 (omega arith)) (c.of_running.ensures ∙ c.run.ensures.answered)
