-- What an inventory keeps.
pub mod Books
pub mod Entering
