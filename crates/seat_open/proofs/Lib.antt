pub mod Ended
pub mod Found
pub mod LastLines
