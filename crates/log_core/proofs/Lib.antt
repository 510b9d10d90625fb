pub mod Buffers
pub mod Remembering
pub mod Counting
pub mod Reading
pub mod Marking
