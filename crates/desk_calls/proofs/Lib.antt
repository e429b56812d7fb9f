pub mod Indexing
pub mod Resending
