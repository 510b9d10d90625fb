pub mod Walks
pub mod Listing
pub mod Entries
pub mod Rounds
pub mod Searches
pub mod Ordered
