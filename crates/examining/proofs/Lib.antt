-- The definition's verdict, refusal by refusal.
pub mod Steps
pub mod Answers
