-- Kinds kept for the places of a document.
pub mod Stored
pub mod Flat
