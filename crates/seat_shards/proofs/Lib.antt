pub mod Sums
pub mod Merged
pub mod Owning
pub mod Summing
pub mod Grounds
pub mod Placing
pub mod Verdicts
pub mod Wanting
