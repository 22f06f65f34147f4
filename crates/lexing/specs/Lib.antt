-- What the text of a script is.
pub mod Text
pub mod Numerals
pub mod Words
