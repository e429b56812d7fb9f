pub use Rattle.seat_nesting.specs.Nesting
pub mod Answers
pub mod Balances
pub mod Carrying
pub mod Stepping
