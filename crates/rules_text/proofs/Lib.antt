pub mod Checking
pub mod NoFloats
pub mod Joining
pub mod Saying
pub mod Written
