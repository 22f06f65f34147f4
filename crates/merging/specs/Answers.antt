-- The answer of the model that the code's answer stands for.
use Rattle.std.specs.Prelude.{◌≡◌, List, ℕ, Result, Ok, Err}
use Rattle.model.specs.Merging.{Merged, MergingAnswer, merged, not_merged}
use Rattle.merging_tests.specs.declared.MergingFault.{MergingFault}
use Rattle.merging_tests.specs.Answers.{fault_number, fault_place}

-- the number of states, or a refusal's number and place
abbrev pub merging_answer : Result ℕ MergingFault → MergingAnswer
merging_answer (Ok states) = merged states
merging_answer (Err f) = not_merged (fault_number f) (fault_place f)

-- an answer and what the two buffers then hold are those of the definition
abbrev pub Merges : MergingAnswer → (table marks : List ℕ) → Merged → Type 0
Merges a table marks result = (a ≡ result.answer) × (table ≡ result.table) × (marks ≡ result.marks)
