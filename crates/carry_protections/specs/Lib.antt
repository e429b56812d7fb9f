pub mod ByPlace
pub mod Courses
pub mod Going
pub mod Refusing
pub mod Rows
