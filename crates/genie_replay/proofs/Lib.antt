pub mod Boots
pub mod Exits
pub mod Gathering
pub mod Opening
pub mod Reading
pub mod Running
pub mod Starting
pub mod Stepping
