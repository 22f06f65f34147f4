-- What stands in a plan.
pub mod Plans
