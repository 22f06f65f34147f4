-- Marks of rows: what the marks say of the rows, and which row is marked next.
pub mod Marks
