pub mod Laws
pub mod Older
pub mod Pairs
pub mod Steps
pub mod Written
