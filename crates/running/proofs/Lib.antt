-- Lemmas of running, most of which its proofs cite: steps of the work, what evaluating and calling come to, and rows in a buffer.
pub mod Steps
pub mod Buffers
pub mod Evaluating
pub mod Calling
pub mod Closing
pub mod Admitting
