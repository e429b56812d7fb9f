pub mod Fronts
pub mod Growing
pub mod Steps
pub mod Tidy
