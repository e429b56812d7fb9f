pub mod Openings
pub mod Routing
pub mod Sent
