-- What the promises of writing out speak of beside the model, and that the numbers written read back to the same tree.
pub mod Rows
pub mod Tests
pub mod ReadsBack
