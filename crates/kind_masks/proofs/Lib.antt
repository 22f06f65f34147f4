-- How many ones there are.
pub mod Ones
