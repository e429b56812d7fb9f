pub mod Daily
pub mod Going
pub mod Groups
pub mod Opening
pub mod Serving
pub mod Silence
pub mod Streaming
