-- What the proofs of the marks share.
pub mod MarkBits
