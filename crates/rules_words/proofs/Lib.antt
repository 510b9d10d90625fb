pub mod Fronts
pub mod FirstWords
pub mod AllWords
pub mod Names
pub mod OneCut
