-- The sequential step.
pub mod Reply
pub mod Full
