-- `admit_nodes`: no node passed has a fault.
use Rattle.std.proofs.Common.{◌≡◌, ℕ, ◌<◌}
use Rattle.model.specs.Tables.{node_at}
use Rattle.model.specs.Answers.{fine}
use Rattle.model.specs.Admission.{node_fault}
use Rattle.admission_expressions.proofs.nodes.admit_nodes.Given as goal

abbrev pub invariant-loop-k : goal.invariant-loop-k
invariant-loop-k l = (j : ℕ) → j < l.k → node_fault l.symbols l.counts j (node_at l.nodes j) ≡ fine
