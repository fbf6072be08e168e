pub mod Exits
pub mod Playing
