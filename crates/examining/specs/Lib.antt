-- What the examiner's answers stand for, their numbers and places.
pub mod Answers
pub mod Numbers
