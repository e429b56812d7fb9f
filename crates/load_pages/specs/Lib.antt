pub mod Marks
pub mod Rows
pub mod Sections
pub mod Pages
