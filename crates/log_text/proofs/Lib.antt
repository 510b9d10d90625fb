pub mod Agreeing
pub mod NoFloats
pub mod Suggesting
pub mod Joining
