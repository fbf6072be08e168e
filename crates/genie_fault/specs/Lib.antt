pub mod Benches
pub mod Resolving
