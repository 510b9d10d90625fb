pub mod Ticket
pub mod Verdict
pub mod Chains
pub mod Hash
pub mod Kinds
