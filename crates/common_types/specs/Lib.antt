pub mod WordBytes
pub mod Refused
pub mod Escapes
