pub mod Moving
pub mod Reached
pub mod Reading
pub mod Storing
