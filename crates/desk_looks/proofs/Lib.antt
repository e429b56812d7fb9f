pub mod Galleries
pub mod Tries
pub mod Watches
