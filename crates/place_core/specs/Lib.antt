pub mod Placement
pub mod Ranking
pub mod Distinct
pub mod Inside
pub mod Laws
