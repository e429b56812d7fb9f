pub mod FaultText
pub mod Listed
pub mod Names
pub mod Reading
