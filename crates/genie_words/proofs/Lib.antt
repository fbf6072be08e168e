pub mod Decimals
pub mod FoundRows
pub mod Meanings
pub mod Parse
pub mod Plain
