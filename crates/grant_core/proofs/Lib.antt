pub mod Fillings
pub mod Paths
pub mod Tables
pub mod Places
pub mod Sizes
pub mod Pushed
