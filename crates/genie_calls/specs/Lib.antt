pub mod Closing
pub mod CloseLaws
pub mod Serving
pub mod Sharing
pub mod Kinds
