pub mod Asking
pub mod Cleaning
pub mod Listing
pub mod Sorting
