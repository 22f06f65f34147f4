-- Laws that the functions' proofs cite.
pub mod Scans
pub mod Digits
pub mod Sameness
