pub mod Setting
pub mod Counting
pub mod Lines
pub mod Choices
pub mod Answered
pub mod Closed
pub mod Promises
