-- The pass over those that wait.
pub mod Quiet
pub mod Weights
pub mod ByTable
