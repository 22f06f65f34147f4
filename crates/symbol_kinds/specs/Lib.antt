-- The steps in which the kind of a symbol over two kinds is computed.
pub mod Steps
