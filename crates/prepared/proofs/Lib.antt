-- What is known of a table that is prepared.
pub mod Known
