pub mod Legs
pub mod Sums
pub mod Loads
