-- Lemmas of the proofs: room in the buffers where the loops stand, and what a visit comes to.
pub mod Visits
