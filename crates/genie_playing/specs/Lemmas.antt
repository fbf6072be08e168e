-- Lemmas on runs of events, for proofs here and above.
pub mod Costing
pub mod Counting
pub mod Readying
pub mod Showing
pub mod Stepping
pub mod Writing
