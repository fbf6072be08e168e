-- Lemmas on room, on spans, and on sums over places, for the proofs of the crates above.
pub mod Keeping
pub mod Spans
pub mod Totals
