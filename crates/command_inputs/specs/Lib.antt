pub mod Sorted
pub mod Asked
