pub mod ReplyRows
pub mod ReplyTable
