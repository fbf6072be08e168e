pub mod Discarding
pub mod Hidden
pub mod Lemmas
pub mod Marking
pub mod Queues
pub mod Rooms
pub mod Trimming
