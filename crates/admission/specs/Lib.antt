-- The stages in which the code admits a contract.
pub mod Stages
pub mod Looks
