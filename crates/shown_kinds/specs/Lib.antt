-- What chains of rows hold, and which rows are the first of those that look the same.
pub mod Chains
