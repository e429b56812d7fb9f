pub mod Calls
pub mod Epochs
pub mod FaultText
pub mod Lines
pub mod Words
