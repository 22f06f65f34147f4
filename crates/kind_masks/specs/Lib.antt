-- The mask of a contract.
pub mod Mask
