-- What the code of running is proved against, in the terms of the code's tables, buffers and answers.
pub mod Places
pub mod Work
pub mod Promises
