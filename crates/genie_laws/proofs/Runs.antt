-- Whole runs.
pub mod Numbers
pub mod Refusals
