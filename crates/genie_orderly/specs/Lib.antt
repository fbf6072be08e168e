pub mod Lemmas
pub mod Orderly
pub mod Steps
