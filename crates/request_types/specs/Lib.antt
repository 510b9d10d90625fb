pub mod Target
pub mod Text
