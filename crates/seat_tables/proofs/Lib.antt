pub mod Spelling
pub mod Fields
pub mod Members
pub mod Putting
pub mod Reading
