pub mod Faults
pub mod Lists
pub mod Once
pub mod Refusals
pub mod Seals
pub mod Streams
