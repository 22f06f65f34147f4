-- What a search of a list needs, and what the list holds of a symbol's kinds over its kinds.
pub mod Search
pub mod Held
pub mod Sent
