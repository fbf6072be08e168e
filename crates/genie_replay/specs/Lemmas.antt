-- Lemmas on what is read and written in a run, for proofs here and above.
pub mod Filing
pub mod Opened
pub mod Placing
pub mod Remaining
pub mod Writing
