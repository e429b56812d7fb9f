pub mod Flown
pub mod Hosts
pub mod Parts
