pub mod Copying
pub mod Lemmas
pub mod Regions
