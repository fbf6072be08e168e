-- What transfers name.
pub mod Calls
pub mod DeviceSteps
pub mod Ends
pub mod Exits
pub mod SpaceEvents
pub mod Steps
