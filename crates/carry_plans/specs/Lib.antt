pub mod Carries
pub mod Plans
pub mod Parting
pub mod Promises
pub mod Failing
pub mod Joining
pub mod Knowing
