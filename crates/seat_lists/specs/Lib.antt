pub mod Listing
pub mod LiveBookings
pub mod Named
pub mod Passing
pub mod Picking
pub mod Waiting
