pub mod Handing
pub mod Steps
pub mod Stopping
