-- Lemmas that the proofs of this crate's functions cite.
pub mod NodeUses
pub mod NodeNumbers
