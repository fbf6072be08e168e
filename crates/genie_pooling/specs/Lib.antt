pub mod Buffers
pub mod Filling
pub mod Delivering
pub mod Pooled
