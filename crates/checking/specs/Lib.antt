-- What a caller may conclude from calls; and a buffer that is cleared from a place on.
pub mod Calls
pub mod MergedCalls
pub mod ExaminedCalls
pub mod Cleared
