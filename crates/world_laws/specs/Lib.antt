pub mod Serving
pub mod Accepted
pub mod Audit
pub mod Places
pub mod Recovery
pub mod Pieces
pub mod ListingLaws
