pub mod Allowed
pub mod Idle
pub mod Places
pub mod Steps
pub mod Sublists
pub mod Everywhere
