pub mod Numbering
pub mod Ordering
pub mod Reading
