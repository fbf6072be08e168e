pub mod Counting
pub mod Listed
