-- The list of a flight's live bookings, and its index.
pub mod Order
pub mod Rows
pub mod Keys
pub mod Changes
pub mod Lists
