pub mod Region
pub mod Grain
pub mod Suggestion
pub mod Outcome
pub mod Parts
