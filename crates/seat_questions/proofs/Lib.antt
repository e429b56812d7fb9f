pub mod Closings
pub mod Common
pub mod Coverages
pub mod Covers
mod Effects
mod Numbering
mod Reasons
pub mod RoomTexts
pub mod Standings
pub mod Marking
