pub mod Inert
