pub mod Blocks
pub mod Digits
pub mod Splits
pub mod Standing
pub mod Widths
