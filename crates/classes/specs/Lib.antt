-- Classes of rows: for a symbol, rows that agree on all that it can see on a side are of one class.
pub mod Agreement
pub mod Masks
