-- What devices send.
pub mod Called
pub mod Events
pub mod Ranges
pub mod ReceiveSteps
pub mod Records
pub mod SendSteps
pub mod Sent
pub mod Turns
pub mod Whole
