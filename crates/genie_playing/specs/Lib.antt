pub mod Costs
pub mod Faults
pub mod Lemmas
pub mod Moments
pub mod Plays
pub mod Serving
