pub mod Faults
pub mod Ordered
pub mod Puts
