-- What the rounds come to, and kinds that the stay rules are to close.
pub mod Rounds
