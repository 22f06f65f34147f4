-- What comes back, from what the tests told and what was written.
pub mod Results
