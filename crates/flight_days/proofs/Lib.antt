pub mod Listing
pub mod Leaving
