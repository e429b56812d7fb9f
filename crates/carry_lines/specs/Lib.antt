pub mod Setting
pub mod Carriable
pub mod Carried
