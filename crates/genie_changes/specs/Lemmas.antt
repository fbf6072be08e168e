-- Lemmas on the regions of a kernel and on permissions, for proofs here and above.
pub mod Once
pub mod Outside
pub mod Narrowed
pub mod Filling
