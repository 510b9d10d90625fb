pub mod Quotes
pub mod ReadBack
