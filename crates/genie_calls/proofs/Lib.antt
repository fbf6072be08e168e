pub mod Ending
pub mod Pools
pub mod Closed
pub mod Serving
pub mod Handles
pub mod OfKinds
mod Rising
mod Filling
