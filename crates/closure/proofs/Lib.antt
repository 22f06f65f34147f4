-- What a search of the list tells, what the first kinds of classes tell of all, and what this makes of the verdict.
pub mod Searching
pub mod Openings
pub mod Classes
pub mod Verdicts
pub mod FirstOpen
