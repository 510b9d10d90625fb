pub mod Linted
pub mod Judged
pub mod CephLinted
pub mod ReadLinted
