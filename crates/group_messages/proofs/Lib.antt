pub mod Alike
mod Known
