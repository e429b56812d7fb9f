-- The sequential step.
pub mod Outcomes
pub mod Reduced
pub mod Found
pub mod Limits
pub mod Apart
pub mod Effect
