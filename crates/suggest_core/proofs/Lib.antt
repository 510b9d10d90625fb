pub mod Members
pub mod Beginnings
pub mod Longest
pub mod Regions
pub mod Serving
pub mod Steps
pub mod Least
pub mod Needed
