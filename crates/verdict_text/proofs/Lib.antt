pub mod FirstPlaces
pub mod NoFloats
pub mod Pieces
pub mod EachTold
pub mod Results
pub mod CephGrants
pub mod KeptSpelling
