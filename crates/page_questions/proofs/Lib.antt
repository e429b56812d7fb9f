pub mod Eaching
pub mod Showing
pub mod Paging
