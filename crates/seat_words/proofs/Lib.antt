pub mod Building
pub mod Lines
pub mod Taken
mod DayLaws
mod Found
mod Served
mod Values
