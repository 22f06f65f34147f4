-- What the answer tells a caller, and the lemmas that the proofs of this crate's functions cite.
pub mod Answered
pub mod Order
pub mod LooksOrder
