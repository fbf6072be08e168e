pub mod Console
pub mod Replies
