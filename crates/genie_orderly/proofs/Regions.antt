-- The regions of the processes and their numbers.
pub mod Apart
pub mod Copied
pub mod Distinct
pub mod Filled
pub mod Numbers
pub mod Queues
pub mod Sizes
pub mod Spaces
pub mod Tables
