pub mod Exchanged
pub mod Objects
pub mod Sharing
pub mod Visible
pub mod Wiring
pub mod Written
