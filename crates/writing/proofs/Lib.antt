-- Lemmas that the proofs of the functions cite.
pub mod Buffers
pub mod Children
pub mod Ready
pub mod Answers
