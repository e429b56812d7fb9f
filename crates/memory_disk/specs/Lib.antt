pub mod Folders
pub mod Fuses
pub mod Tapes
