pub mod Changes
pub mod Lemmas
pub mod Targets
