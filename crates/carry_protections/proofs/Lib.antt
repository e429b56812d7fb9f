pub mod Dates
pub mod Following
pub mod Numbering
pub mod Pairs
