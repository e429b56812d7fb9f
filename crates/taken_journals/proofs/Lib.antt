pub mod Owning
pub mod Taking
