pub mod Counting
pub mod Cutting
pub mod Keeping
pub mod Syncs
