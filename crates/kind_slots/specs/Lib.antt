-- Kinds as they stand in the words of a list, and the slots by which one of them is found.
pub mod Stored
pub mod Slots
