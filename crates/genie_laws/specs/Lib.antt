pub mod Integrity
pub mod Laws
pub mod Streams
