pub mod Drafts
pub mod Fitting
pub mod FittingLaws
pub mod Laws
pub mod Locality
pub mod Log
pub mod Stored
