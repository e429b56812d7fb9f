pub mod Partners
pub mod Statuses
pub mod Messages
pub mod Changes
pub mod Lines
pub mod Answers
