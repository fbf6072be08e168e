-- Lemmas for the hosts of the crates above.
pub mod Tables
