pub mod Counts
pub mod Groups
pub mod Growing
pub mod Keeping
pub mod Leaving
pub mod Syncs
