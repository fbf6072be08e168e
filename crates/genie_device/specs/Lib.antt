pub mod Buffers
pub mod Device
pub mod Gathering
pub mod GoingOn
pub mod Kept
pub mod Moving
pub mod Receiving
pub mod Sending
