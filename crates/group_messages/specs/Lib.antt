pub mod ActingSets
pub mod Decided
pub mod Answers
pub mod Printed
pub mod Types
pub mod Beginnings
pub mod Starts
pub mod Waiting
