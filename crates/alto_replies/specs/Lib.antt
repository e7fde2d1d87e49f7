pub mod Body
pub mod Errors
pub mod Replies
pub mod Reply
