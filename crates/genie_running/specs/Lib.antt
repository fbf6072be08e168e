pub mod Booted
pub mod Ending
pub mod Outcome
pub mod Wiring
