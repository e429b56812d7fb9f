-- Counters of held seats.
pub mod Limits
pub mod Ranks
pub mod Changes
pub mod Shown
