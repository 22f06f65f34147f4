-- What the texts of this crate are made from.
pub mod Help
