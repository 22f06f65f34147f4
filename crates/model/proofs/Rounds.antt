-- The list of the states that a tree automaton reaches, round by round: what it holds, and when code may stop or skip.
pub mod Growth
pub mod Places
pub mod Covering
pub mod Distinct
pub mod RowTrees
pub mod Listing
pub mod Least
pub mod Heights
pub mod Skipping
pub mod Stopping
pub mod Buffers
pub mod Counting
