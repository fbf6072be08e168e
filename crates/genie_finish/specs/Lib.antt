pub mod Besides
pub mod Copies
pub mod Moves
pub mod Ranges
pub mod Ready
pub mod Storing
pub mod Table
