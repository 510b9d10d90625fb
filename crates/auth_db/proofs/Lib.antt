pub mod Commute
pub mod Kept
pub mod Judging
pub mod Told
