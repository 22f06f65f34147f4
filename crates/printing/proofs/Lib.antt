-- Laws that the functions' proofs cite, and others of runs of bytes.
pub mod Columns
pub mod Texts
pub mod Runs
