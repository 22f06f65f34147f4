-- Document 01's words for the cases of this crate's answers, what its table of ends holds, and what is known of numbers taken.
pub mod Answers
pub mod Ends
pub mod Taken
