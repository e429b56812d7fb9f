pub mod Laws
pub mod Segments
pub mod Telling
