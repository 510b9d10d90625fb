pub mod Stepped
pub mod CephFound
pub mod KeptLists
