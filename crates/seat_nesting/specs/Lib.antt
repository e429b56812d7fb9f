pub mod Changing
pub mod Counting
pub mod FaultText
pub mod FlatCounts
pub mod Ladders
pub mod Nesting
pub mod OwnLadders
pub mod Planning
