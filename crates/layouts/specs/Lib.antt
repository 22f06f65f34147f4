-- The words of a layout, and what they stand for.
pub mod LaneWords
pub mod Counts
