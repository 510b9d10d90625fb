pub mod Drafts
pub mod Fitting
pub mod FoundEntries
pub mod Lawful
pub mod LegalLogs
pub mod Locality
pub mod Places
pub mod Pushing
