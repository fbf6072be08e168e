pub mod Opening
pub mod Running
pub mod Sizing
pub mod Telling
pub mod Wires
