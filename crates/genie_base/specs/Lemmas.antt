-- Lemmas on lists, for the proofs of the crates above.
pub mod FreeLists
pub mod Mapped
pub mod Overlaid
pub mod Places
pub mod Runs
pub mod Searches
