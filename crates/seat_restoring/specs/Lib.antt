pub mod Begun
pub mod Comparing
pub mod Dating
pub mod Found
pub mod Restoring
pub mod Sealing
pub mod Serving
