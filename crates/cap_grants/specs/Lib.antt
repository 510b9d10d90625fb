pub mod Bytes
pub mod Spellable
pub mod Gives
