-- What the code's layout of words stands for.
pub mod Layouts
