pub mod Groups
pub mod Users
pub mod Moves
pub mod Places
pub mod Shares
pub mod Beginning
pub mod Printed
