pub mod Laws
pub mod Owning
pub mod Parts
