pub mod Kept
pub mod OwnLines
pub mod ToldTurns
