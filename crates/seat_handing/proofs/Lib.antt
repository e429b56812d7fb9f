pub mod Counted
pub mod Hands
pub mod Judged
pub mod Known
pub mod Marks
pub mod Ordered
pub mod Olders
