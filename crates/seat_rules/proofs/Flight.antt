-- One flight alone.
pub mod View
pub mod Changes
pub mod Parts
pub mod Seen
pub mod Locality
pub mod Commands
