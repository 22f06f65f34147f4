-- Chains as the code makes them, number by number.
pub mod Chaining
pub mod Emptying
