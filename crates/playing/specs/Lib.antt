-- What the values and buffers of a script that is played stand for.
pub mod Desks
pub mod Questions
pub mod Printed
pub mod Plays
pub mod Turns
