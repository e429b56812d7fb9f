pub mod LoadTexts
pub mod Adding
pub mod Riding
