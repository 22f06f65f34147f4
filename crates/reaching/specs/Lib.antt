-- Marks on nodes, and lists of the marked nodes.
pub mod Marks
pub mod Listing
