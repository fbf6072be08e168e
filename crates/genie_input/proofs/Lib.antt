pub mod Lent
pub mod Ready
pub mod Back
pub mod Pools
pub mod Buffers
