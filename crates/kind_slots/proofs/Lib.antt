-- Lemmas of the proofs: sums of words, kinds that are the same, steps from slot to slot, searches, and the slots of a list.
pub mod Sums
pub mod Same
pub mod Steps
pub mod Free
pub mod Placing
pub mod Finding
pub mod Searching
