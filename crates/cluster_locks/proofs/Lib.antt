pub mod Places
pub mod NoneLeft
pub mod FreshRows
