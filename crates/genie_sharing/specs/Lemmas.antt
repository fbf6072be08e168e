-- Lemmas on copies, for the proofs of the crates above.
pub mod Composing
