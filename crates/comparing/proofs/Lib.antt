-- What comparisons say, from what is read of the two buffers.
pub mod Comparisons
