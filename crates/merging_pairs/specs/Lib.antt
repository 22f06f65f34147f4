-- Output types of which code is lent a part, and what it asks of them.
pub mod Types
