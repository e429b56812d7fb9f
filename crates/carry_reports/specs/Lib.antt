pub mod Codes
pub mod Counting
pub mod Fates
pub mod Lines
pub mod Numbers
pub mod Reports
pub mod Sums
