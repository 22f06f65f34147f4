-- Lemmas of the proofs: words of marked states.
pub mod MarkWords
