-- Lemmas of the proofs: a part of a table filled with one number.
pub mod Parts
