pub mod Places
pub mod Furthest
pub mod WireRoom
