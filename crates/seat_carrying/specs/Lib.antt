pub mod Carrying
pub mod Owned
pub mod Lifting
pub mod Laws
