-- Lemmas that the proofs of this crate's functions cite, and what a search tells of its table.
pub mod Bounds
pub mod Found
