pub mod Living
pub mod Passing
