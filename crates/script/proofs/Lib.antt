-- Laws that the functions' proofs cite, and what each case of reading gives.
pub mod Stretches
pub mod Listings
pub mod Readings
