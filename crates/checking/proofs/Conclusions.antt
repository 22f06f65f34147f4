-- What a caller may conclude from calls of `check`: `call_meaning` of one call, `examined_call` of one beside an examined list,
-- `larger_limit_stop_of_calls` and `demand_3_of_calls` of two, `merged_calls` of three.
pub mod Calls
pub mod Demand
pub mod Merged
pub mod Examined
