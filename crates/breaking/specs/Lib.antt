-- The words that tell what a kind says of its trees, and what they tell.
pub mod Verdicts
