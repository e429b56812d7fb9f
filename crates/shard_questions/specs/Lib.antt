pub mod Counting
pub mod Joined
pub mod Joining
pub mod Laws
pub mod Together
