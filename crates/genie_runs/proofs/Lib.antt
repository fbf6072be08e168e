pub mod Alike
pub mod ByKernel
pub mod Levels
pub mod Lines
pub mod Outcomes
pub mod Reached
pub mod Scripts
pub mod Worked
