-- Lemmas of the proofs: lists that are cleared from a place on, what an offer comes to, and how offers go on and stop.
pub mod Zeros
pub mod Offers
pub mod Stops
