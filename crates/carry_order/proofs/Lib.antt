pub mod Kept
pub mod Lining
pub mod Listing
pub mod Ranked
pub mod Apart
