pub mod Inputs
pub mod Names
pub mod Orphans
pub mod Regions
pub mod Runs
pub mod Transfers
