pub mod FirstPlaces
pub mod IntervalLists
pub mod OnePool
pub mod Acceptance
pub mod Current
pub mod Daemons
pub mod Kept
pub mod Tags
