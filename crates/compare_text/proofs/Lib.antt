pub mod Addressed
pub mod Quotes
pub mod Comparisons
pub mod Items
pub mod NoFloats
pub mod PairsTold
