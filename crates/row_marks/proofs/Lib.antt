-- Lemmas of the proofs: one more symbol.
pub mod MarkBits
