-- What a node uses, from what the nodes below it use.
pub mod Uses
pub mod CallNumbers
