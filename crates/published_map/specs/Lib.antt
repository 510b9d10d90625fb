pub mod Published
pub mod Told
pub mod Answers
pub mod Laws
