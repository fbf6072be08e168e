pub mod Frames
pub mod Bounds
pub mod Lemmas
pub mod Places
pub mod Rooms
