-- Every event, and whole runs.
pub mod Events
pub mod Orderly
