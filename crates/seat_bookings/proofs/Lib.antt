pub mod Common
pub mod Live
pub mod Waitlists
pub mod Kept
