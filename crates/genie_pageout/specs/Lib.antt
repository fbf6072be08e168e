pub mod Evicting
pub mod Going
pub mod Rounds
