-- What no step tells apart.
pub mod Runs
pub mod Steps
pub mod Thresholds
