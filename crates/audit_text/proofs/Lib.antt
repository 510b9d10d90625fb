pub mod Quotes
pub mod Columns
pub mod Found
