pub mod FileView
pub mod Handles
pub mod Host
pub mod Lemmas
pub mod MemoryParts
pub mod MemoryRecords
pub mod MemoryView
pub mod OnlyHandle
