pub mod Address
pub mod Network
pub mod Samples
pub mod Edges
