-- Arithmetic of lanes that fit into a word.
pub mod Room
