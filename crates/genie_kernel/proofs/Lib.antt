pub mod Orders
pub mod Eight
pub mod Pools
pub mod Boots
