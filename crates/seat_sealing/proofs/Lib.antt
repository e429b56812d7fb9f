mod Denials
pub mod LastLines
mod Known
mod Orders
