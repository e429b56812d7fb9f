pub mod Cuts
pub mod Puts
pub mod Rows
