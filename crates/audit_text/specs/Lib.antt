pub mod Words
pub mod Reached
pub mod Matrix
pub mod Csv
pub mod Report
pub mod Json
