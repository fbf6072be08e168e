pub mod Echo
pub mod Machines
pub mod Packets
pub mod Worn
