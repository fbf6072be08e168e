-- The pending transfers.
pub mod Changes
pub mod Counts
pub mod Frames
pub mod Numbers
