pub mod Calls
pub mod Sending
