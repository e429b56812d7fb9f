pub mod Common
mod Addings
mod Chaining
mod Clocks
pub mod Departing
mod Expanding
mod Falling
mod FirstPlaces
mod Grouping
mod Horizons
mod LegChains
mod OperatingDays
mod Repeating
pub mod RightSets
mod Rounding
mod RowByRow
mod Slotting
mod Timetables
pub mod Walks
