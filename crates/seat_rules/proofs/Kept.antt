-- What an inventory keeps.
pub mod Commits
