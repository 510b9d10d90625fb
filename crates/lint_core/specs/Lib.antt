pub mod Idle
pub mod Lint
pub mod Parts
pub mod Pools
pub mod RightsLint
pub mod Sampled
pub mod Sought
