-- What judging comes to, step by step; and what a caller may conclude from calls.
pub mod Steps
pub mod Calls
pub mod Equals
