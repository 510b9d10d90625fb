pub mod Counts
pub mod Distinct
pub mod Hashes
pub mod Keys
pub mod Counted
pub mod Numbers
pub mod Padding
pub mod Ranks
