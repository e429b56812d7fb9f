pub mod Differences
pub mod DifferenceText
pub mod Here
pub mod Noted
pub mod Reconciled
pub mod Sums
pub mod Touches
