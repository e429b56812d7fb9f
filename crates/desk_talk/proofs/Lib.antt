pub mod Broken
pub mod Closed
pub mod Ended
pub mod Holding
pub mod Opened
pub mod Talking
