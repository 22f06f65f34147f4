-- How large the numbers are that are computed, an entry of the merged table and a mark from what is computed, and a buffer that is filled.
pub mod Bounds
pub mod Entries
pub mod Accepting
pub mod Written
