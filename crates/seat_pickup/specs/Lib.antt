pub mod Moves
pub mod Counting
pub mod Pickups
pub mod Pairs
pub mod Older
