pub mod Given
pub mod Sampled
