-- W-206's words for the cases of this crate's tests.
pub mod Answers
