pub mod Cursor
pub mod Digits
pub mod FirstLines
pub mod Known
pub mod Numerals
pub mod ReadBack
