pub mod Forms
pub mod Makes
pub mod Summaries
