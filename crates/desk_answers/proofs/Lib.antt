pub mod Behind
pub mod Repeats
pub mod Days
pub mod Finding
pub mod Quiet
pub mod Readying
pub mod Wishes
