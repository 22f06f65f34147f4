-- Laws of chains and of first rows.
pub mod Latest
pub mod Firsts
