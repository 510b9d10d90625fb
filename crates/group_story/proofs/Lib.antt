pub mod Named
pub mod Events
pub mod Steps
