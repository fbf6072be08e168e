pub mod MemoryView
pub mod Slots
pub mod StoreView
