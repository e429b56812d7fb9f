pub mod Tables
pub mod Placed
pub mod Summing
pub mod Days
pub mod Events
pub mod Pairs
pub mod Classes
mod Placing
