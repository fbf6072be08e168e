pub mod Failures
pub mod MemorySteps
