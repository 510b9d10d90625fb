pub mod Command
pub mod TakenWords
pub mod Script
pub mod Sweeping
pub mod Steps
