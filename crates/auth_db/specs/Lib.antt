pub mod Names
pub mod Texts
pub mod Users
pub mod Entries
pub mod Refusals
pub mod Printed
