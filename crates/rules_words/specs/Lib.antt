pub mod Words
pub mod Cutting
pub mod Naming
pub mod Named
pub mod Laws
