-- What devices take of their input.
pub mod Events
pub mod Landed
pub mod ReceiveSteps
pub mod Records
pub mod Runs
pub mod Stored
pub mod Walks
