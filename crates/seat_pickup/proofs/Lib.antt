pub mod Counted
pub mod Balancing
pub mod Picking
pub mod Between
pub mod Parting
