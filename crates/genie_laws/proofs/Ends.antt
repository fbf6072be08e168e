-- The ends of transfers.
pub mod Moves
pub mod Payloads
