pub mod Rights
pub mod Given
pub mod Samples
pub mod Verdicts
pub mod Reports
