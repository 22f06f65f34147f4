-- What a symbol can see of a child's kind, and the masks that show it.
pub mod Seen
pub mod Calls
