-- "For an answer that is an enum, a definition gives this paper's number and values for each case."
use Rattle.std.specs.Prelude.{ℕ, Result, Ok, Err}
use Rattle.model.specs.Answers.{Answer, refusal, stopped, admitted, judged, pass, tree, ran, written}
use Rattle.answers.specs.declared.NodeFault.{NodeFault}
use Rattle.answers.specs.declared.NodeFault.TheVariants as node
use Rattle.answers.specs.declared.ContractFault.{ContractFault}
use Rattle.answers.specs.declared.ContractFault.TheVariants as contract
use Rattle.answers.specs.declared.DocumentFault.{DocumentFault}
use Rattle.answers.specs.declared.DocumentFault.TheVariants as document
use Rattle.answers.specs.declared.Judgement.{Judgement}
use Rattle.answers.specs.declared.Judgement.TheVariants as judgement
use Rattle.answers.specs.declared.Judged.{Judged}
use Rattle.answers.specs.declared.JudgingRefusal.{JudgingRefusal}
use Rattle.answers.specs.declared.JudgingRefusal.TheVariants as judging
use Rattle.answers.specs.declared.Checked.{Checked}
use Rattle.answers.specs.declared.Checked.TheVariants as checked
use Rattle.answers.specs.declared.CheckingRefusal.{CheckingRefusal}
use Rattle.answers.specs.declared.CheckingRefusal.TheVariants as checking
use Rattle.answers.specs.declared.Ran.{Ran}
use Rattle.answers.specs.declared.RunningRefusal.{RunningRefusal}
use Rattle.answers.specs.declared.RunningRefusal.TheVariants as running
use Rattle.answers.specs.declared.WritingRefusal.{WritingRefusal}
use Rattle.answers.specs.declared.WritingRefusal.TheVariants as writing
use Rattle.answers.specs.declared.numbered.Answer as code
use Rattle.answers.specs.declared.numbered.Answer.TheVariants as answer
use Rattle.answers.specs.declared.numbered.Refusal.{Refusal}

-- "30 tag, 31 name, 32 child, 33 a reference not below the node, 34 unused field filled"
abbrev pub node_fault_number : NodeFault → ℕ
node_fault_number node.Tag = 30
node_fault_number node.Name = 31
node_fault_number node.Child = 32
node_fault_number node.Reference = 33
node_fault_number node.Unused = 34

-- refusals 1 to 5, 30 to 34, 7 and 8
abbrev pub contract_refusal : ContractFault → Answer
contract_refusal (contract.Size place) = refusal 1 place
contract_refusal (contract.Length place) = refusal 2 place
contract_refusal (contract.InputRow row) = refusal 3 row
contract_refusal (contract.Entry index) = refusal 4 index
contract_refusal (contract.Count procedure) = refusal 5 procedure.0
contract_refusal (contract.Node fault at) = refusal (node_fault_number fault) at
contract_refusal (contract.Rule rule) = refusal 7 rule
contract_refusal (contract.Facts total) = refusal 8 total

-- refusals 11 and 12
abbrev pub document_refusal : DocumentFault → Answer
document_refusal (document.Length numbers) = refusal 11 numbers
document_refusal (document.Number place) = refusal 12 place

abbrev pub judging_refusal : JudgingRefusal → Answer
judging_refusal (judging.Contract fault) = contract_refusal fault
judging_refusal judging.Buffer = refusal 9 0
judging_refusal (judging.Document fault) = document_refusal fault

abbrev pub checking_refusal : CheckingRefusal → Answer
checking_refusal (checking.Contract fault) = contract_refusal fault
checking_refusal (checking.Buffer place) = refusal 9 place

abbrev pub running_refusal : RunningRefusal → Answer
running_refusal (running.Contract fault) = contract_refusal fault
running_refusal running.Buffer = refusal 9 0
running_refusal (running.Document fault) = document_refusal fault
running_refusal (running.NoRule procedure) = refusal 13 procedure.0
running_refusal (running.NoRow rows) = refusal 14 rows
running_refusal (running.TooManyCalls most) = refusal 15 most

abbrev pub writing_refusal : WritingRefusal → Answer
writing_refusal writing.Rows = refusal 16 0
writing_refusal (writing.Row row) = refusal 17 row
writing_refusal (writing.Number row) = refusal 18 row
writing_refusal (writing.Room numbers) = refusal 19 numbers

abbrev pub admission_answer : Result Unit ContractFault → Answer
admission_answer (Ok _) = admitted
admission_answer (Err fault) = contract_refusal fault

-- "0, not of the input type; 1, of it with no output outside the output type; 2, of it with such an output"; "judging gives 0 for any
-- other tree" than one of one root
abbrev pub judgement_result : Judgement → ℕ
judgement_result judgement.Outside = 0
judgement_result judgement.Sound = 1
judgement_result judgement.Breaking = 2

abbrev pub judging_answer : Result Judged JudgingRefusal → Answer
judging_answer (Ok j) = judged (judgement_result j.judgement) j.taken
judging_answer (Err why) = judging_refusal why

abbrev pub checked_answer : Checked → Answer
checked_answer (checked.Pass count) = pass count
checked_answer (checked.Tree row) = tree row
checked_answer (checked.Stopped limit height) = stopped limit height

abbrev pub checking_answer : Result Checked CheckingRefusal → Answer
checking_answer (Ok c) = checked_answer c
checking_answer (Err why) = checking_refusal why

abbrev pub running_answer : Result Ran RunningRefusal → Answer
running_answer (Ok r) = ran r.root r.used r.taken
running_answer (Err why) = running_refusal why

abbrev pub writing_answer : Result ℕ WritingRefusal → Answer
writing_answer (Ok count) = written count
writing_answer (Err why) = writing_refusal why

-- a refusal by its number and place
abbrev pub refusal_of : Refusal → Answer
refusal_of r = refusal r.number r.place

-- the answer of any operation, where nothing is refused
abbrev pub answered : code.Answer → Answer
answered answer.Admitted = admitted
answered (answer.Judged result taken) = judged result taken
answered (answer.Tree row) = tree row
answered (answer.Pass count) = pass count
answered (answer.Ran root used taken) = ran root used taken
answered (answer.Written count) = written count
answered (answer.Stopped limit height) = stopped limit height

-- the answer of any operation
abbrev pub numbered : Result code.Answer Refusal → Answer
numbered (Ok a) = answered a
numbered (Err r) = refusal_of r
