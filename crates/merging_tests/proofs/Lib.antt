-- What the tests of two types say.
pub mod Tests
pub mod Behind
