-- Laws that the functions' proofs cite, and others of printed lines.
pub mod Lined
pub mod Listings
pub mod Parts
pub mod Writings
