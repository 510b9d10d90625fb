pub mod Given
pub mod Whole
pub mod Extents
