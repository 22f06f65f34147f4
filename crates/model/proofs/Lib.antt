-- What the definitions of specs/ come to: laws that code cites, the theory of rounds, and the theorems that the statements of
-- specs/ hold.
pub mod Laws
pub mod Rounds
pub mod Meaning
