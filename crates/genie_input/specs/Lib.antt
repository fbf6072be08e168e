pub mod Lending
pub mod Buffers
pub mod Pools
