-- What the program asks, and what its text is.
pub mod Asked
pub mod Lines
