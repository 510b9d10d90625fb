pub mod Log
pub mod Lines
pub mod Marks
pub mod Tally
pub mod Ledger
