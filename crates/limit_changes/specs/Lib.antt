pub mod Legs
pub mod Reaching
pub mod Rows
pub mod Shorts
pub mod Lines
pub mod Answers
pub mod Laws
