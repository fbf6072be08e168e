pub mod Alike
pub mod ByKernel
pub mod Outcomes
pub mod Reached
pub mod Texts
pub mod Worked
