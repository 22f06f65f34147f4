-- What an answer of admission tells.
pub mod Answered
