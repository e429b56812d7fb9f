pub mod Booking
pub mod Receipts
