-- The table form of a kind, bit by bit, up to the model's `next_kind`.
pub mod Sizes
pub mod Lanes
pub mod Blocks
pub mod Nodes
pub mod Called
pub mod Listed
pub mod Chains
pub mod Rules
pub mod States
pub mod Marked
pub mod Kind
pub mod Ends
pub mod Fits
pub mod Closing
