pub mod After
pub mod Answered
pub mod Auditing
pub mod Grounds
pub mod ReadWhole
pub mod Schedules
pub mod Sealed
pub mod Texts
