-- How rounds begin and end, what stands between them, the marks of rows, and what all rounds come to.
pub mod Between
pub mod Marking
pub mod Starting
pub mod Lists
