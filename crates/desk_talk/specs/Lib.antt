pub mod Closing
pub mod Ending
pub mod Opening
pub mod Talks
