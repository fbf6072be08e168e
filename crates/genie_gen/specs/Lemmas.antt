-- Lemmas on the host of a made run, for the crates above.
pub mod Faultless
