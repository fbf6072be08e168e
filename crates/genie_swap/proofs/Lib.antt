pub mod Filling
pub mod Beside
