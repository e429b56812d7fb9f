pub mod Refusing
pub mod SealedDesk
