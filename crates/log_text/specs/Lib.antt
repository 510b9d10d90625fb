pub mod Object
pub mod Decision
pub mod Reading
pub mod Agreement
pub mod Sides
pub mod Suggested
