-- W-206's words for the cases of this crate's answer.
pub mod Answers
