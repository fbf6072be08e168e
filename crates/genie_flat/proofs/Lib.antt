pub mod BootedDevices
pub mod Copies
