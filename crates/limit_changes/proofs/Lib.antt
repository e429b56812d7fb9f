pub mod Keeping
pub mod Ranks
mod Ranking
mod Listing
pub mod Written
mod Answering
mod Quiet
pub mod Walking
pub mod Apart
pub mod Arriving
pub mod Falling
pub mod Held
mod Lawful
