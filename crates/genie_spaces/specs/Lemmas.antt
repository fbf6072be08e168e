-- Lemmas on new objects and on permissions that are taken away, for proofs here and above.
pub mod Forbidding
pub mod Making
