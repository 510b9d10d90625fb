pub mod BuiltIn
pub mod Flat
pub mod Found
pub mod Refusal
pub mod Table
pub mod Text
pub mod Tree
