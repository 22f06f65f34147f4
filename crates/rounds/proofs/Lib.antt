-- Lemmas of the proofs: a number under another name, and where the list ends.
pub mod Laps
pub mod Ending
