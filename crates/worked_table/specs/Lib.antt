-- The worked contracts, the table of questions and answers, another for stay rules, pairs of examples, pairs of output types and lists of
-- kinds, with the claims that the definitions give just these.
pub mod Questions
pub mod WorkedContracts
pub mod Table
pub mod Stays
pub mod Examples
pub mod Mergings
pub mod Examinings
