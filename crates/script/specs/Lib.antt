-- What statements are, and what a script means.
pub mod Spans
pub mod Statements
pub mod Phrases
pub mod Meaning
pub mod Examples
