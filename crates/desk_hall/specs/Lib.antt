pub mod Booking
pub mod Departed
pub mod Halls
pub mod OneLeg
pub mod Orders
pub mod Pieces
pub mod Planning
pub mod Telling
