-- The pass over those that wait.
pub mod Undone
pub mod Changed
pub mod Skipped
pub mod Lowered
pub mod Sales
