pub mod ChangedInPlace
pub mod Collected
pub mod FirstPassing
pub mod Placed
