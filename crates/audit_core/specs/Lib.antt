pub mod Reached
pub mod Giving
