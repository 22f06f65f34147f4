-- What printed text is.
pub mod Decimals
pub mod Appending
