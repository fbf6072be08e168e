mod Outside
mod Alike
mod Pieces
mod Joined
mod Led
mod Once
mod Stored
mod Changed
mod Wrote
pub mod Copied
pub mod Getting
mod Rising
