pub mod FaultLines
pub mod Laws
pub mod Looks
pub mod Hosts
pub mod Ready
pub mod Saying
