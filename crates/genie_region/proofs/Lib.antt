pub mod Orders
pub mod Fits
pub mod Places
