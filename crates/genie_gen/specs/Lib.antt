pub mod Draws
pub mod GenView
pub mod Lemmas
pub mod Rounds
pub mod Scripts
pub mod Sources
pub mod Streams
pub mod Tallies
