pub mod Covered
pub mod Ends
pub mod Inputs
pub mod Levels
pub mod Outputs
pub mod Runs
pub mod Streams
