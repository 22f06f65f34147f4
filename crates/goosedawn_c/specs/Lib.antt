-- The numbers that a caller in C or Rust receives for each of document 01's answers, and what the caller may conclude from them.
pub mod Replies
pub mod Calls
pub mod Refusals
pub mod MergeReplies
pub mod ExamineReplies
