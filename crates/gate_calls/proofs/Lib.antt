pub mod Values
pub mod HandleValues
mod Plain
mod Usable
mod Sampled
mod Ceph
mod Read
mod Gains
mod Numbered
mod Answered
