-- The numbers, places and verdicts of the model that the code's tests stand for, and the two parts of what is refused.
use Rattle.std.specs.Prelude.{◌≡◌, not, ℕ, Result, Ok, Err, eqb, ltb}
use Rattle.model.specs.Tables as model
use Rattle.model.specs.Tables.{type_of}
use Rattle.model.specs.Answers.{Verdict, fine, refused, refuse_if, refuse_first, ◌then◌}
use Rattle.model.specs.Merging.{type_verdict, buffer_short}
use Rattle.merging_tests.specs.declared.OutputType.{OutputType}
use Rattle.merging_tests.specs.declared.MergingFault.{MergingFault}
use Rattle.merging_tests.specs.declared.MergingFault.TheVariants as fault

-- the output type that is handed in, which has no symbol count
abbrev pub type_handed : OutputType → model.OutputType
type_handed t = type_of t.states t.table.now t.marks.now

-- a fault's number and place
abbrev pub fault_number : MergingFault → ℕ
fault_number (fault.First place) = 51
fault_number (fault.Second place) = 52
fault_number (fault.Symbols count) = 50
fault_number (fault.States count) = 53
fault_number fault.Table = 56
fault_number fault.Marks = 56

abbrev pub fault_place : MergingFault → ℕ
fault_place (fault.First place) = place
fault_place (fault.Second place) = place
fault_place (fault.Symbols count) = count
fault_place (fault.States count) = count
fault_place fault.Table = 0
fault_place fault.Marks = 1

-- what is refused of a type, by a test that tells the place of its fault
abbrev pub type_test_verdict : (number : ℕ) → Result Unit ℕ → Verdict
type_test_verdict number (Ok _) = fine
type_test_verdict number (Err place) = refused number place

-- a test of a type tells its fault, by whichever number
abbrev pub TellsType : Result Unit ℕ → (S : ℕ) → model.OutputType → Type 0
TellsType t S Y = (number : ℕ) → type_test_verdict number t ≡ type_verdict number S Y

abbrev pub test_verdict : Result Unit MergingFault → Verdict
test_verdict (Ok _) = fine
test_verdict (Err f) = refused (fault_number f) (fault_place f)

-- what is refused of the two types and their symbols
abbrev pub types_verdict : (S : ℕ) (Y : model.OutputType) (S' : ℕ) (Z : model.OutputType) → Verdict
types_verdict S Y S' Z = type_verdict 51 S Y then type_verdict 52 S' Z then refuse_if (not (eqb S S')) 50 S'

-- what is refused of a merged type of so many states, and of the buffers for it
abbrev pub result_verdict : (S states table_room marks_room : ℕ) → Verdict
result_verdict S states table_room marks_room = refuse_if (ltb 4 states) 53 states then refuse_first 56 (buffer_short S states table_room marks_room) 2
