-- Lemmas that the proofs of this crate's functions cite.
pub mod Offsets
pub mod PowerTable
