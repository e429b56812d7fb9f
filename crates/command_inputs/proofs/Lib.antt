mod Horizons
pub mod Sorting
pub mod Dated
pub mod Located
