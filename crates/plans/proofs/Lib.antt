-- Lemmas about plans: numbers written over others, the right sides of the first rules, the rule that a run takes and how many calls it makes.
pub mod Overlays
pub mod FirstSides
pub mod Seeking
pub mod Limits
pub mod Laying
