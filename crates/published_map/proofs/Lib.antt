pub mod Grows
pub mod Knowing
pub mod ActingSets
