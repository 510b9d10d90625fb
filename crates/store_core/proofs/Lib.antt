pub mod AlikeStores
pub mod Listing
pub mod Stores
pub mod TextSets
