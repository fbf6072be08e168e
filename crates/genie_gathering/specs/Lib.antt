pub mod Devices
pub mod Payload
pub mod Delivering
pub mod Gathering
pub mod Receiving
pub mod Laws
pub mod Outboard
