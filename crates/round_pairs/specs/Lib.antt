-- Where the loops of a round stand and what each step of them does.
pub mod Steps
pub mod Stretches
