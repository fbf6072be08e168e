pub mod Discarded
pub mod Fewer
pub mod Kept
pub mod Marking
pub mod Numbers
pub mod Shedding
pub mod Trimmed
