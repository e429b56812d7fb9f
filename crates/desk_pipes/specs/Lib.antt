pub mod Answering
pub mod Cutting
pub mod Files
pub mod Marks
pub mod Waiting
pub mod Watching
