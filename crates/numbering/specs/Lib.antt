-- What the numbering of facts asks of the parameter counts, and of the table of powers.
pub mod Counts
pub mod Powers
