pub mod Answering
pub mod Asked
pub mod Changes
pub mod Going
pub mod Requests
pub mod RunDesk
pub mod Segments
pub mod VeryRequest
