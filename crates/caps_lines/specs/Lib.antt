pub mod Shell
pub mod Laws
pub mod Lines
