-- The list of kinds in the lent buffers: what the functions compute over numbers and words, that it is the model's list, and
-- what its end gives.
pub mod Listing
pub mod Held
pub mod Outcomes
pub mod Offers
pub mod Closing
