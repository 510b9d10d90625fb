pub mod Finding
pub mod Serving
pub mod Counting
pub mod Counted
pub mod Asking
pub mod Whole
pub mod Messages
mod Passing
mod Told
mod Fittings
mod Installs
