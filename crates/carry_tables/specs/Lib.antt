pub mod FateRows
pub mod Sides
