-- What the typed tuples of the code stand for, and the contract that is handed in.
pub mod Handed
pub mod Tuples
