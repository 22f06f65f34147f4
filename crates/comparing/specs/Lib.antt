-- W-207's words for the cases of this crate's answers, stretches as they lie in memory, and what a caller may conclude.
pub mod Answers
pub mod Stretches
pub mod Calls
