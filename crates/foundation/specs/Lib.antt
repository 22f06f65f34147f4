-- Small mathematics over numbers and lists, with no word of contracts in it.
pub mod Tests
pub mod TestLaws
pub mod Search
pub mod Words
pub mod Bits
pub mod Lists
