-- What is left of regions that were removed.
pub mod Kept
pub mod Named
pub mod Rising
pub mod Tidy
