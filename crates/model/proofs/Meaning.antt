-- What the answers mean: outputs are those of the published meaning, facts are the states of outputs, a kind says which trees break a
-- contract, a check's answers speak of all trees, refusals say what is wrong and where, of two examples the shorter comes back, a
-- merged type allows what both types do, of a list of kinds that is accepted no tree breaks the contract, and a contract without stay
-- rules keeps its answers.
pub mod Outputs
pub mod Published
pub mod Facts
pub mod Readings
pub mod Kinds
pub mod KindCounts
pub mod Answers
pub mod Stops
pub mod Checks
pub mod AcceptMarks
pub mod Demand
pub mod Runs
pub mod Faults
pub mod Verdicts
pub mod Shorter
pub mod Refusals
pub mod Judgements
pub mod Merging
pub mod MergingAnswers
pub mod MergeLaw
pub mod MergedChecks
pub mod Examining
pub mod ExaminingAnswers
pub mod OtherContracts
