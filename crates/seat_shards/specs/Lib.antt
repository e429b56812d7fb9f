pub mod Shards
pub mod Laws
pub mod Faults
pub mod Taking
pub mod Auditing
