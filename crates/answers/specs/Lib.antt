-- Document 01's numbers for the cases of the code's answers.
pub mod Numbers
