pub mod Names
pub mod Apart
pub mod Parties
pub mod Owned
