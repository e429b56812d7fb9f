pub mod Owning
pub mod Places
pub mod Spelling
pub mod Tellings
