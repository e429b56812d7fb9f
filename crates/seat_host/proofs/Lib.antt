pub mod Agreeing
pub mod Booking
pub mod Keeping
pub mod Numbers
pub mod Staking
pub mod Gathered
pub mod Opening
pub mod Refusing
