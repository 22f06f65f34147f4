-- Document 01, sentence by sentence. Each definition quotes the words that it stands for. Published has source document 000's
-- meaning; Refusals, Meaning and Demand have the statements that proofs/ proves. Shorter has change request W-207, Merging W-206 and
-- Examining W-211, each with definitions and statements; OtherContracts has what was before W-208, and that it stands.
pub mod Trees
pub mod Documents
pub mod Rows
pub mod Tables
pub mod Expressions
pub mod Answers
pub mod Admission
pub mod Outputs
pub mod Published
pub mod Facts
pub mod Kinds
pub mod Rounds
pub mod Judging
pub mod Checking
pub mod Running
pub mod WritingOut
pub mod Refusals
pub mod Shorter
pub mod Claims
pub mod Meaning
pub mod Demand
pub mod Merging
pub mod Examining
pub mod OtherContracts
