-- Lines put one behind another.
pub mod Texts
pub mod Sevens
