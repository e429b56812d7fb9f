pub mod Cover
pub mod Coverage
pub mod PairNumbers
pub mod Rooms
pub mod Why
pub mod Winning
