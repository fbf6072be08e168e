-- Lemmas on loans, ranges and landings, for the crates above.
pub mod Ended
pub mod Ending
pub mod Fresh
pub mod FreshSound
pub mod Laid
pub mod Landings
pub mod Ranges
pub mod Staying
pub mod Wiring
